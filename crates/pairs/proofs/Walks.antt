-- Laws of the walks over a gate's list and over the lists: the rest behind a place.
use Prim.Native.Nat.{suc, ℕ, ◌+◌, ◌<◌, ◌≤◌}
use mathlib.Core.Path.{◌≡◌}
use mathlib.Core.List.{List, [], ◌∷◌}
use lib.ListN.{drop, drop_of_length-le, get_or}
use Rattle.laws.specs.Lists.{tab}
use Rattle.pairs.specs.Lists.{front, left_at, list_at, lists_of, sig_at, start_at}
use Rattle.laws.proofs.Tabs.{drop_tab, get_or_tab, length_tab}
use Rattle.pairs.proofs.Gates.{length_list}

pub drop_list : (area : List ℕ) (i j : ℕ) → j < left_at area i → drop j (list_at area i) ≡ sig_at area (start_at area i + j) ∷ drop (suc j) (list_at area i)
unfolding list_at front
drop_list area i j h = drop_tab (λ k. sig_at area (start_at area i + k)) (left_at area i) j 0 h

pub get_or_list : (area : List ℕ) (i j : ℕ) → j < left_at area i → get_or (list_at area i) j 0 ≡ sig_at area (start_at area i + j)
unfolding list_at front
get_or_list area i j h = get_or_tab (λ k. sig_at area (start_at area i + k)) (left_at area i) j 0 h

pub drop_lists : (area : List ℕ) (g i : ℕ) → i < g → drop i (lists_of area g) ≡ list_at area i ∷ drop (suc i) (lists_of area g)
unfolding lists_of
drop_lists area g i h = drop_tab (list_at area) g i [] h

pub list_end : (area : List ℕ) (i j : ℕ) → left_at area i ≤ j → drop j (list_at area i) ≡ []
list_end area i j h = drop_of_length-le (list_at area i) {i = j} (rw length_list h)

pub lists_end : (area : List ℕ) (g i : ℕ) → g ≤ i → drop i (lists_of area g) ≡ []
unfolding lists_of
lists_end area g i h = drop_of_length-le (tab (list_at area) g) {i = i} (rw length_tab h)
