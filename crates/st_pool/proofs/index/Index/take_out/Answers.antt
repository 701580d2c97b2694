use Rattle.std.proofs.Common.{◌∙◌, ◌++◌, ap, map, take, get_or, List, [], arith}
use Rattle.std.proofs.lemmas.List.Edits.{map_over_more}
use Rattle.std.proofs.lemmas.List.{append-nil, take_all, drop_all}
use Rattle.st_pool.proofs.IndexLaws.{Row, rows, left, length-rows, rows-set, all-left, get_or-own}
use Rattle.st_pool.proofs.index.Index.take_out.Goals as goal

pub loop-i-preserved : goal.loop-i-preserved
loop-i-preserved c =
    rows-set c.loop-i.self.lists.entries c.loop-i.i c.take_out_of.new.places c.index_mut.result.now c.args.kernel c.index_mut.ensures.value c.take_out_of.ensures
    ∙ map_over_more (left c.args.kernel) (rows c.args.self.now.lists.entries) (rows c.loop-i.self.lists.entries) c.loop-i.i (get_or (rows c.loop-i.self.lists.entries) c.loop-i.i ([], []))
    (omega (arith, length-rows c.args.self.now.lists.entries, c.len-i-end.ensures.len, c.loop-i-test.true)) c.loop-i.invariant (get_or-own (rows c.loop-i.self.lists.entries) c.loop-i.i ([], []))

pub returns : goal.returns
returns c = λ name. all-left name c.args.kernel c.args.self.now.lists c.loop-i.self.lists
    (c.loop-i.invariant
    ∙ ap (λ (rs : List Row). map (left c.args.kernel) (take c.loop-i.i (rows c.args.self.now.lists.entries)) ++ rs)
    (drop_all c.loop-i.i (rows c.args.self.now.lists.entries) (omega (arith, length-rows c.args.self.now.lists.entries, c.len-i-end.ensures.len, c.loop-i-test.false)))
    ∙ append-nil (map (left c.args.kernel) (take c.loop-i.i (rows c.args.self.now.lists.entries)))
    ∙ ap (map (left c.args.kernel)) (take_all c.loop-i.i (rows c.args.self.now.lists.entries) (omega (arith, length-rows c.args.self.now.lists.entries, c.len-i-end.ensures.len, c.loop-i-test.false))))
