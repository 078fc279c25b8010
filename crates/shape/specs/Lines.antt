-- The lines 2 to 7 of document 01's table, in its words, as propositions on an image.
use Rattle.std.specs.Prelude.{◌≡◌, ◌≢◌, ◌⊎◌, ℕ, ◌+◌, ◌%◌, ◌^◌, ◌≤◌, ◌<◌, List, length, get_or}
use Rattle.model.specs.Signal.{from_var, from_input}
use Rattle.model.specs.Gate.{Net, gate_at, size, fanin}
use Rattle.model.specs.Image.{code_at, count_at, table_at, end_from, inputs_in, nodes_in, outs_in, span_in, words_of, net_of}

-- 2: "image below 16 bytes; D below 16, not a multiple of 4, or past the start"
pub data Line2 (img : List ℕ) : Type 0 where
  below_16 : length img < 16 → Line2 img
  span_below_16 : span_in img < 16 → Line2 img
  span_not_by_4 : span_in img % 4 ≢ 0 → Line2 img
  span_past : length img < span_in img → Line2 img

-- 3: "over 1,024 inputs, 512 nodes or 64 outputs"
pub data Line3 (img : List ℕ) : Type 0 where
  many_inputs : 1024 < inputs_in img → Line3 img
  many_nodes : 512 < nodes_in img → Line3 img
  many_outputs : 64 < outs_in img → Line3 img

-- the table of kinds: a code, with as many inputs as it has; 6 to 11 have any number
pub record Arity (code n : ℕ) : Type 0 where
  pub is_code : code ≤ 14
  pub and2_xor2 : code ≤ 1 → n ≡ 2
  pub and3_to_mux : 2 ≤ code → code ≤ 5 → n ≡ 3
  pub buf : code ≡ 12 → n ≡ 1
  pub dff : code ≡ 13 → n ≡ 3
  pub lut : code ≡ 14 → n ≤ 6

-- "a record breaks the layout": its header's top 8 bits, its code and count, or bits 2^n and above of a Lut's table
pub data Breaks (ws : List ℕ) (at : ℕ) : Type 0 where
  top_bits : 16777216 ≤ get_or ws at 0 → Breaks ws at
  no_kind : ¬ Arity (code_at ws at) (count_at ws at) → Breaks ws at
  high_bits : code_at ws at ≡ 14 → 2 ^ (2 ^ count_at ws at) ≤ table_at ws at → Breaks ws at

-- the word of the body where record k begins; for k the number of nodes, where the records end
abbrev pub record_word : List ℕ → ℕ → ℕ
record_word img k = end_from k (words_of img) 0

-- 4: "a record breaks the layout above, or the records do not end where the outputs begin", before outputs and trailer
pub data Line4 (img : List ℕ) : Type 0 where
  record_breaks : (k : ℕ) → k < nodes_in img → Breaks (words_of img) (record_word img k) → Line4 img
  ends_elsewhere : record_word img (nodes_in img) + (outs_in img + 4) ≢ length (words_of img) → Line4 img

-- 5: "over 2,048 gate inputs in all"
abbrev pub Line5 : List ℕ → Type 0
Line5 img = 2048 < fanin (net_of img).nodes

-- s is the word w, or w inverted
abbrev pub Spells : ℕ → ℕ → Type 0
Spells w s = (s ≡ w) ⊎ (s ≡ w + 1)

-- s names a constant, one of n nodes or one of i inputs
pub data Present (i n s : ℕ) : Type 0 where
  constant : Spells 0 s → Present i n s
  node : (v : ℕ) → v < n → Spells (from_var v) s → Present i n s
  input : (k : ℕ) → k < i → Spells (from_input k) s → Present i n s

-- s stands in a list
pub record In (s : ℕ) (l : List ℕ) : Type 0 where
  pub place : ℕ
  pub inside : place < length l
  pub there : get_or l place 0 ≡ s

-- s is a gate's input, or an output
pub data SignalOf (N : Net) (s : ℕ) : Type 0 where
  gate_input : (v : ℕ) → v < size N → In s (gate_at N v).ins → SignalOf N s
  output : In s N.outs → SignalOf N s

-- 6: "a signal names an absent input or node"
pub record Line6 (img : List ℕ) : Type 0 where
  pub signal : ℕ
  pub used : SignalOf (net_of img) signal
  pub absent : ¬ Present (inputs_in img) (nodes_in img) signal

-- 7: "not sorted": a combinational gate names a node not below its own number
pub record Line7 (img : List ℕ) : Type 0 where
  pub gate : ℕ
  pub gate_is : gate < nodes_in img
  pub combinational : (gate_at (net_of img) gate).kind ≢ 13
  pub signal : ℕ
  pub used : In signal (gate_at (net_of img) gate).ins
  pub named : ℕ
  pub named_is : named < nodes_in img
  pub names : Spells (from_var named) signal
  pub not_below : gate ≤ named
