-- What the steps of Factoring::run ask and leave, over the lists of a network's gates.
use Rattle.std.specs.Prelude.{ℕ, ◌<◌, ◌≤◌, ◌≡◌, Option, List, [], length}
use Rattle.factoring.specs.Turned.{fitted}
use Rattle.model.specs.Sharing.{all_pairs, consume_binary_gates, factoring, shared_signals}
use Rattle.pairs.specs.Lists.{Laid, area_size, start_at}
use Rattle.pairs.specs.States.{Ready, state_of}
use Rattle.tables.specs.Holding.{Held}
use Rattle.uses.specs.Loading.{Between, Separated, lists_in, slot}
use Rattle.kinds.specs.declared.Family.{Family}
use Rattle.tables.specs.declared.counts.Counts.{Counts}

-- the lists of gs, without what was set aside
pub record Loaded (gs : List (List ℕ)) (from l : List ℕ) (g n : ℕ) : Type 0 where
  pub between : Between from l n
  pub lists : Separated gs l g

-- the pairs are built, k of them
pub record Halfway (gs : List (List ℕ)) (from l : List ℕ) (g n k room : ℕ) : Type 0 where
  pub between : Between from l n
  pub gates : g ≡ length gs
  pub ready : Ready l g n k room
  pub starts : (w : ℕ) → w < g → start_at l w ≡ slot gs w
  pub state : state_of l g n k ≡ all_pairs (consume_binary_gates (record { lists = shared_signals gs; next = n; built = [] }) g)

-- m holds the end of the pass, where that has room
pub record Finished (gs : List (List ℕ)) (m : List ℕ) (g n room : ℕ) (r : Option ℕ) : Type 0 where
  pub answer : r ≡ fitted room (factoring gs n)
  pub held : length (factoring gs n).built ≤ room → Laid m g × (state_of m g n (length (factoring gs n).built) ≡ factoring gs n)

pub record Asked (from to : List ℕ) (c : Counts) : Type 0 where
  pub held : Held from c
  pub long : area_size ≤ length to

-- the lists of the network's gates, without what was set aside
pub record Sharable (f : Family) (from l : List ℕ) (c : Counts) (g : ℕ) : Type 0 where
  pub held : Held from c
  pub between : Between from l c.nodes
  pub lists : Separated (lists_in f from c.nodes) l g
