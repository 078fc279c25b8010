use native.Mathlib.Omega.{arith}
use borrow.Author.Rules.{rules}
use Rattle.replace_in.proofs.Taking.{take_count, take_step, take_outs}
use Rattle.replace_in.proofs.take_out.Goals as goal

pub loop-j-init : goal.loop-j-init
loop-j-init c = search (rules, take_outs)

pub overflow_add-w : goal.overflow_add-w
overflow_add-w c = search (rules, take_outs)

pub loop-j-preserved : goal.loop-j-preserved
loop-j-preserved c =
    let k = c.keep_one-w in
    let s = c.sig_at-s in
    let p = c.loop-j in (
      omega arith,
      search (rules, take_outs),
      omega arith,
      search rules,
      take_count _ _ _ _ _ _ p.invariant.4 _ p.invariant.5 _ s.ensures _ k.ensures.0,
      take_step _ _ _ _ _ _ p.invariant.4 _ p.invariant.5 _ s.ensures _ k.ensures.1,
    )

pub returns : goal.returns
returns c = search (rules, take_outs)
