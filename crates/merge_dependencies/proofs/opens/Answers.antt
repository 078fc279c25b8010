-- `opens`: each need by its law.
use mathlib.Core.Path.{refl}
use Rattle.merge_dependencies.proofs.Openings.{openings, opens_done}
use borrow.Author.Rules.{rules}
use Rattle.merge_dependencies.proofs.opens.Goals as goal

pub returns-then-not-is_var : goal.returns-then-not-is_var
returns-then-not-is_var c = search (rules, openings)

pub var-w-requires : goal.var-w-requires
var-w-requires c = search (rules, openings)

pub kind_at-requires : goal.kind_at-requires
kind_at-requires c = search (rules, openings)

pub count_at-requires : goal.count_at-requires
count_at-requires c = search (rules, openings)

pub overflow_add-result : goal.overflow_add-result
overflow_add-result c = search (rules, openings)

pub returns : goal.returns
returns c = opens_done _ _ _ _ c.requires _ c.is_var.ensures (search rules) _ _ c.var-w.ensures refl _ _ _ _ _ _ _ _ c.is_inverted-plain.ensures c.kind_at.ensures c.kind_of.ensures c.in_family.ensures c.count_at.ensures refl
