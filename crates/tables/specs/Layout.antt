-- Where the words of a network stand in a list of words, and the network that a list of words holds.
-- Only this file and proofs/Layout.antt know the places.
use Rattle.std.specs.Prelude.{ℕ, ◌+◌, ◌*◌, ◌^◌, List, get_or, set}
use Rattle.model.specs.Gate.{Gate, Net}
use Rattle.laws.specs.Lists.{tab}

-- words of a network
abbrev pub net_size : ℕ
net_size = 4672

abbrev pub ins_base : ℕ
ins_base = 1536

abbrev pub tab_base : ℕ
tab_base = 3584

abbrev pub out_base : ℕ
out_base = 4608

-- the gate table: kind, first input and count interleaved
abbrev pub kind_ix : ℕ → ℕ
kind_ix v = 3 * v

abbrev pub first_ix : ℕ → ℕ
first_ix v = 3 * v + 1

abbrev pub count_ix : ℕ → ℕ
count_ix v = 3 * v + 2

unfoldable pub kind_at : List ℕ → ℕ → ℕ
kind_at l v = get_or l (kind_ix v) 0

unfoldable pub first_at : List ℕ → ℕ → ℕ
first_at l v = get_or l (first_ix v) 0

unfoldable pub count_at : List ℕ → ℕ → ℕ
count_at l v = get_or l (count_ix v) 0

unfoldable pub input_at : List ℕ → ℕ → ℕ
input_at l k = get_or l (ins_base + k) 0

unfoldable pub low_at : List ℕ → ℕ → ℕ
low_at l v = get_or l (tab_base + 2 * v) 0

unfoldable pub high_at : List ℕ → ℕ → ℕ
high_at l v = get_or l (tab_base + 2 * v + 1) 0

unfoldable pub output_at : List ℕ → ℕ → ℕ
output_at l o = get_or l (out_base + o) 0

-- stores
unfoldable pub put_gate : List ℕ → ℕ → ℕ → ℕ → ℕ → List ℕ
put_gate l v k f c = set (set (set l (kind_ix v) k) (first_ix v) f) (count_ix v) c

unfoldable pub put_input : List ℕ → ℕ → ℕ → List ℕ
put_input l k s = set l (ins_base + k) s

unfoldable pub put_table : List ℕ → ℕ → ℕ → ℕ → List ℕ
put_table l v lo hi = set (set l (tab_base + 2 * v) lo) (tab_base + 2 * v + 1) hi

unfoldable pub put_output : List ℕ → ℕ → ℕ → List ℕ
put_output l o s = set l (out_base + o) s

-- the network that the words hold
unfoldable pub ins_at : List ℕ → ℕ → List ℕ
ins_at l v = tab (λ j. input_at l (first_at l v + j)) (count_at l v)

unfoldable pub gate_at : List ℕ → ℕ → Gate
gate_at l v = record { kind = kind_at l v; ins = ins_at l v; table = low_at l v + 2 ^ 32 * high_at l v }

unfoldable pub nodes_of : List ℕ → ℕ → List Gate
nodes_of l n = tab (gate_at l) n

unfoldable pub outputs_of : List ℕ → ℕ → List ℕ
outputs_of l m = tab (output_at l) m

unfoldable pub net_of : List ℕ → ℕ → ℕ → ℕ → Net
net_of l i n m = record { inputs = i; nodes = nodes_of l n; outs = outputs_of l m }

-- beyond the network: tables of a word for each node, and a stack
abbrev pub tr_base : ℕ
tr_base = 4672

abbrev pub order_base : ℕ
order_base = 5184

abbrev pub count_base : ℕ
count_base = 5696

abbrev pub mark_base : ℕ
mark_base = 6208

abbrev pub stack_base : ℕ
stack_base = 6720

-- room of the stack
abbrev pub deep : ℕ
deep = 4608

-- words of an area that are in use
abbrev pub span : ℕ
span = 11328

unfoldable pub cell : List ℕ → ℕ → ℕ → ℕ
cell l b i = get_or l (b + i) 0

unfoldable pub store : List ℕ → ℕ → ℕ → ℕ → List ℕ
store l b i x = set l (b + i) x
