-- Buffers and areas that are lent to a work: what it takes, and what it gives back. At exit they are primed.
use Rattle.std.specs.Prelude.{◌≡◌, ℕ, List, Result, take}
use denote.Ref.{MutBor}
use Rattle.refusals.specs.declared.Refusal.{Refusal}

-- the work may be called with these buffers and the first 16,384 words of both areas
abbrev pub Takes : {T : Type 0} → (MutBor (List ℕ) → MutBor (List T) → MutBor (List ℕ) → MutBor (List ℕ) → Type 0) → List ℕ → List T → List ℕ → List ℕ → Type 0
Takes {T} pre out second a b =
    (o : MutBor (List ℕ)) (s : MutBor (List T)) (p q : MutBor (List ℕ)) → o.now ≡ out → s.now ≡ second → p.now ≡ take 16384 a → q.now ≡ take 16384 b → pre o s p q

-- and answered r, and left the buffers so
pub record Gives {T : Type 0} (post : MutBor (List ℕ) → MutBor (List T) → MutBor (List ℕ) → MutBor (List ℕ) → Result ℕ Refusal → MutBor (List ℕ) → MutBor (List T) → MutBor (List ℕ) → MutBor (List ℕ) → Type 0)
    (out : List ℕ) (second : List T) (a b : List ℕ) (r : Result ℕ Refusal) (out' : List ℕ) (second' : List T) : Type 0 where
  pub o : MutBor (List ℕ)
  pub s : MutBor (List T)
  pub p : MutBor (List ℕ)
  pub q : MutBor (List ℕ)
  pub o' : MutBor (List ℕ)
  pub s' : MutBor (List T)
  pub p' : MutBor (List ℕ)
  pub q' : MutBor (List ℕ)
  pub was_out : o.now ≡ out
  pub was_second : s.now ≡ second
  pub was_a : p.now ≡ take 16384 a
  pub was_b : q.now ≡ take 16384 b
  pub met : post o s p q r o' s' p' q'
  pub is_out : o'.now ≡ out'
  pub is_second : s'.now ≡ second'

-- nothing that was lent has changed
pub record Untouched {T : Type 0} (out : List ℕ) (second : List T) (a b : List ℕ) (out' : List ℕ) (second' : List T) (a' b' : List ℕ) : Type 0 where
  pub result : out' ≡ out
  pub second_is : second' ≡ second
  pub area_a : a' ≡ a
  pub area_b : b' ≡ b
