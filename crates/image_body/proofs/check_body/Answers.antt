-- `check_body`: each need by its law.
use mathlib.Core.Path.{ap, ◌∙◌}
use mathlib.Core.Bool.{not}
use borrow.Author.Rules.{rules}
use Rattle.std.proofs.lemmas.Result.{err_from_is_err_and}
use Rattle.refusals.proofs.Numbers.{refused_ok_or}
use Rattle.image_body.proofs.Bodies.{body_absent, body_broken, body_end, body_many, body_room, body_short, body_sound, body_unsorted}
use Rattle.image_body.proofs.check_body.Goals as goal

pub returns-in_err-lim : goal.returns-in_err-lim
returns-in_err-lim c =
    let p = err_from_is_err_and c.from_residual.result c.from_residual.ensures.1 in
    let e = c.in_err-lim.ensures in
    refused_ok_or _ _ _ _ _ e.value e.ok_part p.1 p.2 ∙ body_short _ _ _ _ _ _ c.checked_sub.ensures e.ok_part

pub returns-in_err-t : goal.returns-in_err-t
returns-in_err-t c =
    let p = err_from_is_err_and c.from_residual-in_err-t.result c.from_residual-in_err-t.ensures.1 in
    let e = c.in_err-t.ensures in
    let room = body_room _ _ _ c.checked_sub.ensures _ c.in_ok-lim.ensures.ok_part in
    refused_ok_or _ _ _ _ _ e.value e.ok_part p.1 p.2 ∙ body_broken _ _ _ _ _ _ room _ c.layout.ensures e.ok_part

pub returns-then-t-gt2048 : goal.returns-then-t-gt2048
returns-then-t-gt2048 c =
    let room = body_room _ _ _ c.checked_sub.ensures _ c.in_ok-lim.ensures.ok_part in
    body_many _ _ _ _ _ _ room _ c.layout.ensures _ c.in_ok-t.ensures.ok_part c.if-t-gt2048.true

pub of_records-gates-requires : goal.of_records-gates-requires
of_records-gates-requires c =
    let room = body_room _ _ _ c.checked_sub.ensures _ c.in_ok-lim.ensures.ok_part in
    body_end _ c.args.strict c.args.inputs _ _ _ room _ c.layout.ensures _ c.in_ok-t.ensures.ok_part

pub returns-then-not-gates-outputs : goal.returns-then-not-gates-outputs
returns-then-not-gates-outputs c =
    let room = body_room _ _ _ c.checked_sub.ensures _ c.in_ok-lim.ensures.ok_part in
    body_absent _ _ _ _ _ _ room _ c.layout.ensures _ c.in_ok-t.ensures.ok_part c.if-t-gt2048.false c.requires.0 _ c.of_records-gates.ensures _ c.reach-outputs.ensures (ap not c.if-not-gates-outputs.true)

pub returns-then-strict-gates : goal.returns-then-strict-gates
returns-then-strict-gates c =
    let room = body_room _ _ _ c.checked_sub.ensures _ c.in_ok-lim.ensures.ok_part in
    body_unsorted _ _ _ _ _ _ room _ c.layout.ensures _ c.in_ok-t.ensures.ok_part c.if-t-gt2048.false c.requires.0 _ c.of_records-gates.ensures _ c.reach-outputs.ensures (ap not c.if-not-gates-outputs.false) (search rules)

pub returns : goal.returns
returns c =
    let room = body_room _ _ _ c.checked_sub.ensures _ c.in_ok-lim.ensures.ok_part in
    body_sound _ _ _ _ _ _ room _ c.layout.ensures _ c.in_ok-t.ensures.ok_part c.if-t-gt2048.false c.requires.0 _ c.of_records-gates.ensures _ c.reach-outputs.ensures (ap not c.if-not-gates-outputs.false) (search rules)
