-- What was set aside of the lists of a pass, given back.
use Rattle.std.specs.Prelude.{ℕ, ◌+◌, ◌<◌, ◌≤◌, ◌≡◌, not, List, [], get_or, length}
use Rattle.model.specs.Sharing.{exclusive_signals, give_back, once, retain}
use Rattle.pairs.specs.Lists.{Laid, area_size, left_at, lists_of, pair_at, put_left, put_list, start_at}
use Rattle.tables.specs.Layout.{ins_at}
use Rattle.uses.specs.Uses.{is_once}
use Rattle.uses.specs.Loading.{Between, Node, Says, slot}

-- list i has room behind it for what was set aside of node v
pub record Gives (from l : List ℕ) (v i : ℕ) : Type 0 where
  pub node : Node from v
  pub long : area_size ≤ length l
  pub few : i < 512
  pub room : start_at l i + left_at l i + length (retain (is_once l) (ins_at from v)) ≤ 2048

unfoldable pub given_in : List ℕ → List ℕ → ℕ → ℕ → List ℕ
given_in from l v i =
    let p = retain (is_once l) (ins_at from v) in
    put_left (put_list l (start_at l i + left_at l i) p) i (left_at l i + length p)

-- each list is where it was loaded, and no longer than what was shared of it
pub record Givable (gs : List (List ℕ)) (from to : List ℕ) (n : ℕ) : Type 0 where
  pub between : Between from to n
  pub counted : Says gs to
  pub starts : (w : ℕ) → w < length gs → start_at to w ≡ slot gs w
  pub short : (w : ℕ) → w < length gs → left_at to w ≤ length (retain (λ x. not (once gs x)) (get_or gs w []))

-- the pairs of the new nodes stay
pub record GivenBack (gs : List (List ℕ)) (l m : List ℕ) : Type 0 where
  pub laid : Laid m (length gs)
  pub lists : lists_of m (length gs) ≡ give_back (lists_of l (length gs)) (exclusive_signals gs)
  pub pairs : (v : ℕ) → length gs ≤ v → v < 512 → pair_at m v ≡ pair_at l v
