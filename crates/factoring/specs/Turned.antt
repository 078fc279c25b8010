-- What the steps of a pass answer, and what they leave in the words.
use Rattle.std.specs.Prelude.{suc, ℕ, ◌*◌, ◌+◌, ◌/◌, ◌≤◌, ◌≡◌, cond, List, [], ◌∷◌, get_or, length, eqb, leb, Option, Some, None}
use Rattle.model.specs.Sharing.{Pair, State, join_round, on_two, round_left, round_pairs}
use Rattle.model.specs.Signal.{from_var}
use Rattle.pairs.specs.Lists.{front, left_at, put_list, put_pair, put_sig, sig_at}
use Rattle.pairs.specs.States.{Placed, state_of}

-- the step of consume_binary_gates at gate i
unfoldable pub binary_at : State → ℕ → State
binary_at s i = on_two s (get_or s.lists i [])

-- so many new nodes, if they have room
unfoldable pub fitted : ℕ → State → Option ℕ
fitted room s = cond (leb (length s.built) room) (Some (length s.built)) None

-- from l, m holds the state s of the unlimited pass, where that has room
pub record Went (l m : List ℕ) (g n room : ℕ) (r : Option ℕ) (s : State) : Type 0 where
  pub answer : r ≡ fitted room s
  pub held : length s.built ≤ room → Placed l m g × (state_of m g n (length s.built) ≡ s)

-- ---- joins

-- l with the pairs ps of the new nodes from v on
unfoldable pub put_pairs : List ℕ → ℕ → List Pair → List ℕ
put_pairs l v [] = l
put_pairs l v (x ∷ ps) = put_pairs (put_pair l v x.fst x.snd) (suc v) ps

-- what joining signals 2 j and 2 j + 1 from place f on leaves
unfoldable pub joined_at : List ℕ → ℕ → ℕ → ℕ → List ℕ
joined_at l f v j = put_sig (put_pair l (v + j) (sig_at l (f + 2 * j)) (sig_at l (f + 2 * j + 1))) (f + j) (from_var (v + j))

-- what joining 2 h signals from place f on leaves
unfoldable pub joined_to : List ℕ → ℕ → ℕ → ℕ → List ℕ
joined_to l f v h = put_list (put_pairs l v (round_pairs (front l f (2 * h)))) f (round_left v (front l f (2 * h)))

-- the odd last of m signals from place f on, moved to place f + h
unfoldable pub carried : List ℕ → ℕ → ℕ → ℕ → List ℕ
carried l f m h = cond (eqb m (2 * h)) l (put_sig l (f + h) (sig_at l (f + 2 * h)))

-- a round over gate i
pub record Joined (l m : List ℕ) (g n k i r : ℕ) : Type 0 where
  pub count : r ≡ k + left_at l i / 2
  pub placed : Placed l m g
  pub state : state_of m g n (k + left_at l i / 2) ≡ join_round (state_of l g n k) i
