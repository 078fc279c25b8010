-- `flatten_gate`: each need by its law.
use Rattle.flatten_gate.proofs.Gated.{flat_other, flat_xor, flattens}
use borrow.Author.Rules.{rules}
use Rattle.flatten_gate.proofs.flatten_gate.Goals as goal

pub merge_gate-requires : goal.merge_gate-requires
merge_gate-requires c = search (rules, flattens)

pub returns-then-in_family : goal.returns-then-in_family
returns-then-in_family c = search (rules, flattens)

pub merge_gate-requires-then-in_family-2 : goal.merge_gate-requires-then-in_family-2
merge_gate-requires-then-in_family-2 c = search (rules, flattens)

pub returns-then-in_family-2 : goal.returns-then-in_family-2
returns-then-in_family-2 c = flat_xor _ _ _ _ c.requires _ _ c.kind_at.ensures c.kind_of-k.ensures _ _ _ _ c.in_family.ensures c.if-in_family.false _ c.in_family-2.ensures c.if-in_family-2.true c.merge_gate-then-in_family-2.ensures

pub returns : goal.returns
returns c = flat_other _ _ _ _ c.requires _ _ c.kind_at.ensures c.kind_of-k.ensures _ _ _ _ c.in_family.ensures c.if-in_family.false _ c.in_family-2.ensures c.if-in_family-2.false c.push_gate.ensures
