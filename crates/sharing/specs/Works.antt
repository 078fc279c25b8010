-- Each entry's outcome behind 1, from the image and the length lent.
use Rattle.std.specs.Prelude.{ℕ, cond, List, []}
use Rattle.model.specs.Gate.{Net}
use Rattle.model.specs.Sharing.{flatten_nary, factor_nary, factor_refusal, any_repeats, share_logic}
use Rattle.model.specs.Image.{sorted_refusal_of, net_of, image_of}
use Rattle.model.specs.Answers.{Outcome, written, in_room, unless}
use Rattle.stages.specs.Stages.{flat_refusal}

-- the image of a network, unless a number refuses it
abbrev pub imaged : ℕ → Net → Outcome
imaged k N = unless k (written (image_of N) [])

unfoldable pub flatten_pass : ℕ → Net → Outcome
flatten_pass limit N = imaged (flat_refusal N limit) (flatten_nary N limit)

unfoldable pub factor_pass : Net → Outcome
factor_pass N = unless (cond (any_repeats N.nodes) 9 0) (imaged (factor_refusal N) (factor_nary N))

unfoldable pub share_pass : ℕ → Net → Outcome
share_pass limit N = unless (flat_refusal N limit) (imaged (factor_refusal (flatten_nary N limit)) (share_logic N limit))

-- 2 to 7, then the pass, then 13
unfoldable pub imaged_work : (Net → Outcome) → List ℕ → ℕ → Outcome
imaged_work pass img room = in_room room 0 (unless (sorted_refusal_of img) (pass (net_of img)))
