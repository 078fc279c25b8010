-- A walk over the records: where it goes, how many gates it finds, and that it sees only what lies ahead.
use mathlib.Core.Path.{◌≡◌, refl, sym, ap, ◌∙◌}
use mathlib.Core.List.{List}
use Prim.Native.Nat.{ℕ, zero, suc, ◌+◌, ◌-◌, ◌≤◌, ◌<◌}
use native.Mathlib.Omega.{arith}
use native.Mathlib.Nat.{zero-add, suc-add, add_assoc}
use lib.ListN.{length, get_or, drop, length-drop}
use lib.Seq.{length-take-le, get_or-drop, drop-drop}
use Rattle.model.specs.Gate.{Gate}
use Rattle.model.specs.Image.{code_at, count_at, size_at, table_at, record_gate, sound_at, gates_from, sound_from, end_from}

-- ---- forward

pub size_pos : (ws : List ℕ) (at : ℕ) → 1 ≤ size_at ws at
unfolding size_at
size_pos ws at = omega arith

-- a record has its header and its inputs
pub count_lt_size : (ws : List ℕ) (at : ℕ) → count_at ws at < size_at ws at
unfolding size_at
count_lt_size ws at = omega arith

pub end_le : (k : ℕ) (ws : List ℕ) (at : ℕ) → at ≤ end_from k ws at
unfolding end_from
end_le zero ws at = omega arith
end_le (suc k) ws at = omega (arith, end_le k ws (at + size_at ws at))

-- a walk of j and then of d records
pub end_add : (j d : ℕ) (ws : List ℕ) (at : ℕ) → end_from (j + d) ws at ≡ end_from d ws (end_from j ws at)
unfolding end_from
end_add zero d ws at = rw zero-add
end_add (suc j) d ws at = rw suc-add (end_add j d ws (at + size_at ws at))

end_one : (ws : List ℕ) (at : ℕ) → end_from 1 ws at ≡ at + size_at ws at
unfolding end_from
end_one ws at = refl

-- the last record of a walk
pub end_last : (k : ℕ) (ws : List ℕ) (at : ℕ) → end_from (suc k) ws at ≡ end_from k ws at + size_at ws (end_from k ws at)
end_last k ws at = let e : suc k ≡ k + 1 = omega arith in ap (λ (m : ℕ). end_from m ws at) e ∙ end_add k 1 ws at ∙ end_one ws (end_from k ws at)

pub end_mono : (j n : ℕ) (ws : List ℕ) (at : ℕ) → j ≤ n → end_from j ws at ≤ end_from n ws at
end_mono j n ws at l =
    let e : j + (n - j) ≡ n = omega arith in
    let q : end_from n ws at ≡ end_from (n - j) ws (end_from j ws at) = ap (λ (m : ℕ). end_from m ws at) (sym e) ∙ end_add j (n - j) ws at in
    omega (arith, end_le (n - j) ws (end_from j ws at))

-- ---- what it finds

-- the inputs of a record that is within the words
pub ins_length : (ws : List ℕ) (at : ℕ) → at + size_at ws at ≤ length ws → length (record_gate ws at).ins ≡ count_at ws at
unfolding record_gate
ins_length ws at l = length-take-le (count_at ws at) (drop (at + 1) ws) (rw length-drop (omega (arith, count_lt_size ws at)))

pub length_gates : (k : ℕ) (ws : List ℕ) (at : ℕ) → length (gates_from k ws at) ≡ k
unfolding gates_from
length_gates zero ws at = refl
length_gates (suc k) ws at = ap suc (length_gates k ws (at + size_at ws at))

-- gate k is that of record k
pub gates_at : (k n : ℕ) (ws : List ℕ) (at : ℕ) (d : Gate) → k < n → get_or (gates_from n ws at) k d ≡ record_gate ws (end_from k ws at)
unfolding gates_from end_from
gates_at k zero ws at d l = absurd (omega arith)
gates_at zero (suc n) ws at d l = refl
gates_at (suc k) (suc n) ws at d l = gates_at k n ws (at + size_at ws at) d (omega arith)

-- ---- words behind a position

pub size_drop : (n : ℕ) (ws : List ℕ) (at : ℕ) → size_at (drop n ws) at ≡ size_at ws (n + at)
unfolding size_at code_at count_at
size_drop n ws at = simp get_or-drop

table_drop : (n : ℕ) (ws : List ℕ) (at : ℕ) → table_at (drop n ws) at ≡ table_at ws (n + at)
unfolding table_at code_at count_at
table_drop n ws at = simp (get_or-drop, add_assoc)

sound_drop : (n : ℕ) (ws : List ℕ) (at : ℕ) → sound_at (drop n ws) at ≡ sound_at ws (n + at)
unfolding sound_at code_at count_at
sound_drop n ws at = simp (get_or-drop, table_drop)

gate_drop : (n : ℕ) (ws : List ℕ) (at : ℕ) → record_gate (drop n ws) at ≡ record_gate ws (n + at)
unfolding record_gate table_at code_at count_at
gate_drop n ws at = simp (get_or-drop, drop-drop, add_assoc)

pub gates_drop : (k n : ℕ) (ws : List ℕ) (at : ℕ) → gates_from k (drop n ws) at ≡ gates_from k ws (n + at)
unfolding gates_from
gates_drop zero n ws at = refl
gates_drop (suc k) n ws at = simp (gate_drop, size_drop, gates_drop k, add_assoc)

pub end_drop : (k n : ℕ) (ws : List ℕ) (at : ℕ) → n + end_from k (drop n ws) at ≡ end_from k ws (n + at)
unfolding end_from
end_drop zero n ws at = refl
end_drop (suc k) n ws at = simp (size_drop, end_drop k, add_assoc)

pub sounds_drop : (k n : ℕ) (ws : List ℕ) (at : ℕ) → sound_from k (drop n ws) at ≡ sound_from k ws (n + at)
unfolding sound_from
sounds_drop zero n ws at = refl
sounds_drop (suc k) n ws at = simp (sound_drop, size_drop, sounds_drop k, add_assoc)
