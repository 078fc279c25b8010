-- `put_flip_flop`: what it leaves, by law.
use mathlib.Core.Path.{refl}
use Rattle.topo_sort.proofs.Flipped.{flip_done, flip_none}
use Rattle.topo_sort.proofs.order.put_flip_flop.Goals as goal

pub returns-then-is_flip_flop_code : goal.returns-then-is_flip_flop_code
returns-then-is_flip_flop_code c = flip_done _ _ _ _ _ c.requires _ _ c.kind_at.ensures c.is_flip_flop_code.ensures _ _ c.if-is_flip_flop_code.true refl c.put_word.ensures

pub returns : goal.returns
returns c = flip_none _ _ _ _ _ c.requires _ _ c.kind_at.ensures c.is_flip_flop_code.ensures c.if-is_flip_flop_code.false
