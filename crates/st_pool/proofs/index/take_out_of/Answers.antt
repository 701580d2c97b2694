use Rattle.std.proofs.Common.{rules, ◌≡◌, ◌++◌, ◌∙◌, ap, length, map, take, List, arith}
use Rattle.std.proofs.lemmas.Fn.{filter_same}
use Rattle.std.proofs.lemmas.List.{append-nil, take_all, drop_all, length-map}
use Rattle.st_pool.specs.declared.place.Place.{Place}
use Rattle.st_pool.specs.IndexMachine.{lowered}
use Rattle.st_pool.proofs.index.take_out_of.Goals as goal

pub returns : goal.returns
returns c =
    ap (λ (ps : List Place). take c.retain.new.self.len (c.lower_behind.new.places ++ ps)) (drop_all (length c.lower_behind.new.places) c.retain.new.self.items (omega (arith, long)))
    ∙ ap (take c.retain.new.self.len) (append-nil c.lower_behind.new.places)
    ∙ take_all c.retain.new.self.len c.lower_behind.new.places (omega (arith, long, ap (λ (ps : List Place). length ps) c.as_mut_slice.ensures.value, c.as_mut_slice.ensures.len))
    ∙ whole
    ∙ ap (map (lowered c.args.kernel)) (filter_same _ _ _ (λ x b f' k. search rules) _ _ c.retain.ensures.filtered)
  where
    whole : c.lower_behind.new.places ≡ map (lowered c.args.kernel) c.retain.new.self.items
    whole = c.lower_behind.ensures ∙ ap (map (lowered c.args.kernel)) c.as_mut_slice.ensures.value

    long : length c.lower_behind.new.places ≡ length c.retain.new.self.items
    long = ap (λ (ps : List Place). length ps) whole ∙ length-map c.retain.new.self.items (lowered c.args.kernel)
