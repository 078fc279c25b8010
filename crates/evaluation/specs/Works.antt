-- The outcome of evaluate behind 1, from the image and what is lent.
use Rattle.std.specs.Prelude.{ℕ, List}
use Rattle.model.specs.Image.{sorted_refusal_of, net_of}
use Rattle.model.specs.Answers.{Outcome, unless}
use Rattle.model.specs.Entries.{cycle_outcome}

unfoldable pub evaluate_work : List ℕ → List ℕ → List ℕ → ℕ → Outcome
evaluate_work img inputs state room = unless (sorted_refusal_of img) (cycle_outcome (net_of img) inputs state room)
