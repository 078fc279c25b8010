-- Each entry's outcome behind 1, from the image and the lengths lent for the image and the mapping.
use Rattle.std.specs.Prelude.{ℕ, Bool, List}
use Rattle.model.specs.Gate.{Net, size}
use Rattle.model.specs.Network.{mapping_of, dedup_with, dedup_map}
use Rattle.model.specs.Image.{refusal_of, sorted_refusal_of, net_of, image_of}
use Rattle.model.specs.Answers.{Outcome, written, in_room, unless}
use Rattle.placing.specs.Lists.{norm_of}
use Rattle.network_passes.specs.Passes.{cleanup_pass, sort_pass}

-- canonical and dedup, by the normalization
unfoldable pub dedup_pass : Bool → Net → Outcome
dedup_pass can N = written (image_of (dedup_with (norm_of can) N)) (mapping_of (size N) (dedup_map (norm_of can) N))

unfoldable pub dedup_work : Bool → List ℕ → ℕ → ℕ → Outcome
unfolding dedup_pass
dedup_work can img room mapping = in_room room mapping (unless (sorted_refusal_of img) (dedup_pass can (net_of img)))

unfoldable pub cleanup_work : List ℕ → ℕ → ℕ → Outcome
unfolding cleanup_pass
cleanup_work img room mapping = in_room room mapping (unless (refusal_of img) (cleanup_pass (net_of img)))

unfoldable pub sort_work : List ℕ → ℕ → ℕ → Outcome
unfolding sort_pass
sort_work img room mapping = in_room room mapping (unless (refusal_of img) (sort_pass (net_of img)))
