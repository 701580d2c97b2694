use Rattle.std.proofs.Common.{inl, inr, ◌∙◌}
use Rattle.st_pool.specs.declared.kind.Kind.TheVariants.{Absent, Numbers, Texts, Mixed}
use Rattle.st_tables.proofs.KindLaws.{kind_is, numbers_keep, texts_break, absence_says}
use Rattle.st_tables.proofs.kinds.refusal.Goals as goal

pub returns-in-Numbers : goal.returns-in-Numbers
returns-in-Numbers c =
    numbers_keep c.args.pool.now c.args.var
    (kind_is c.args.pool.now c.args.var c.as_bytes.result.now c.kind.result Numbers c.kind.ensures (c.as_bytes.ensures.value ∙ c.as_str.ensures.value ∙ c.name_of.ensures) c.in-Numbers.is)

pub returns-in-Absent : goal.returns-in-Absent
returns-in-Absent c =
    absence_says c.args.pool.now c.args.var c.absence.result
    (kind_is c.args.pool.now c.args.var c.as_bytes.result.now c.kind.result Absent c.kind.ensures (c.as_bytes.ensures.value ∙ c.as_str.ensures.value ∙ c.name_of.ensures) c.in-Absent.is) c.absence.ensures

pub returns-in-Texts : goal.returns-in-Texts
returns-in-Texts c =
    let name = c.as_bytes.ensures.value ∙ c.as_str.ensures.value ∙ c.name_of.ensures in
    texts_break c.args.pool.now c.args.var (elim c.in-Texts.is [
      | inl e ↦ inl (kind_is c.args.pool.now c.args.var c.as_bytes.result.now c.kind.result Texts c.kind.ensures name e)
      | inr e ↦ inr (kind_is c.args.pool.now c.args.var c.as_bytes.result.now c.kind.result Mixed c.kind.ensures name e)
    ])
