-- The call on the three inverted.
use Rattle.maj_gate.proofs.Turns.{maj_turn, maj_falls}
use Rattle.maj_gate.proofs.+make_maj.Goals as goal

pub make_maj-requires : goal.make_maj-requires
make_maj-requires t c = (maj_falls _ _ _ _ _ _ _ _ _ c.args.inv c.sort_3.ensures.low c.sort_3.ensures.mid c.sort_3.ensures.high c.not-then-is_inverted.ensures c.not-then-is_inverted-2.ensures c.not-then-is_inverted-3.ensures (cc) (cc) (cc) _ c.decreases, c.requires)

pub returns-then-is_inverted : goal.returns-then-is_inverted
returns-then-is_inverted t c = maj_turn _ _ _ _ _ _ _ _ _ _ c.sort_3.ensures.low c.sort_3.ensures.mid c.sort_3.ensures.high c.not-then-is_inverted.ensures c.not-then-is_inverted-2.ensures c.not-then-is_inverted-3.ensures (cc) (cc) (cc) _ c.make_maj.ensures
