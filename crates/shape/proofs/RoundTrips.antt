-- Networks and images, there and back.
use mathlib.Core.Path.{◌≡◌}
use mathlib.Core.List.{List}
use mathlib.Core.Bool.{true}
use Prim.Native.Nat.{ℕ}
use Rattle.model.specs.Gate.{Net, Valid, is_topo_sorted}
use Rattle.model.specs.Image.{Bytes, body_of, net_of, image_of, refusal_of, sorted_refusal_of}
use Rattle.shape.proofs.Written.{net_of_image}
use Rattle.shape.proofs.Accepts.{refusal_of_image, sorted_refusal_of_image}
use Rattle.shape.proofs.Back.{image_of_net}
use Rattle.shape.proofs.Valids.{valid_net}
use Rattle.shape.proofs.Sizes.{bytes_image}

-- what is written is accepted, consists of bytes, and is read as the same network
pub record Readable (n : Net) : Type 0 where
  pub accepted : refusal_of (image_of n) ≡ 0
  pub sorted : is_topo_sorted n ≡ true → sorted_refusal_of (image_of n) ≡ 0
  pub in_bytes : Bytes (image_of n)
  pub same : net_of (image_of n) ≡ n

pub read_written : (n : Net) → Valid n → Readable n
read_written n v =
    record {
      accepted = refusal_of_image n v;
      sorted = sorted_refusal_of_image n v;
      in_bytes = bytes_image n v;
      same = net_of_image n v.gates_shaped;
    }

-- what is read of an accepted image is valid, and is written as the image without its prefix
pub record Writable (img : List ℕ) : Type 0 where
  pub valid : Valid (net_of img)
  pub same : image_of (net_of img) ≡ body_of img

pub written_read : (img : List ℕ) → Bytes img → refusal_of img ≡ 0 → Writable img
written_read img by e = record { valid = valid_net img e; same = image_of_net img by e }

-- so reading again what reading wrote gives the same bytes again
pub record Settled (img : List ℕ) : Type 0 where
  pub accepted : refusal_of (image_of (net_of img)) ≡ 0
  pub same : image_of (net_of (image_of (net_of img))) ≡ image_of (net_of img)

pub read_again : (img : List ℕ) → refusal_of img ≡ 0 → Settled img
read_again img e =
    let r = read_written (net_of img) (valid_net img e) in
    record { accepted = r.accepted; same = rw r.same }
