-- `replace_in`: each need by its law.
use native.Mathlib.Omega.{arith}
use Rattle.replace_in.proofs.Taking.{repl_no, repl_room, repl_yes}
use Rattle.replace_in.proofs.replace_in.Goals as goal

pub returns-then-not-holds_both : goal.returns-then-not-holds_both
returns-then-not-holds_both c = repl_no _ _ _ _ _ _ c.holds_both.ensures c.if-not-holds_both.true

pub overflow_add-f : goal.overflow_add-f
overflow_add-f c = let room = repl_room _ _ _ _ 0 _ c.holds_both.ensures c.if-not-holds_both.false _ c.take_out-w.ensures.0 _ c.start_at-f.ensures _ c.requires.0 c.requires.1 in
    omega arith

pub put_sig-requires : goal.put_sig-requires
put_sig-requires c = let room = repl_room _ _ _ _ 0 _ c.holds_both.ensures c.if-not-holds_both.false _ c.take_out-w.ensures.0 _ c.start_at-f.ensures _ c.requires.0 c.requires.1 in
    omega arith

pub overflow_add-w : goal.overflow_add-w
overflow_add-w c = let room = repl_room _ _ _ _ 0 _ c.holds_both.ensures c.if-not-holds_both.false _ c.take_out-w.ensures.0 _ c.start_at-f.ensures _ c.requires.0 c.requires.1 in
    omega arith

pub overflow_cast-w : goal.overflow_cast-w
overflow_cast-w c = let room = repl_room _ _ _ _ 0 _ c.holds_both.ensures c.if-not-holds_both.false _ c.take_out-w.ensures.0 _ c.start_at-f.ensures _ c.requires.0 c.requires.1 in
    omega arith

pub returns : goal.returns
returns c = repl_yes _ _ _ _ _ _ c.holds_both.ensures c.if-not-holds_both.false _ c.take_out-w.ensures.0 _ c.start_at-f.ensures _ _ _ c.take_out-w.ensures.1 c.put_sig.ensures c.put_left.ensures
