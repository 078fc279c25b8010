-- A network as text, in bytes (document 01, "Checked by hand": what the program `share` prints).
use Rattle.std.specs.Prelude.{ℕ, zero, suc, ◌/◌, ◌%◌, ◌+◌, Bool, true, false, cond, List, [], ◌∷◌, ◌++◌, map, length, ltb}
use Prim.Native.Char.{Char, code}
use Prim.Native.String.{String, [] as end, ◌∷◌ as then}
use Rattle.laws.specs.Bools.{bit}
use Rattle.kinds.specs.Kinds.{kind_of}
use Rattle.kinds.specs.declared.Kind.{Kind}
use Rattle.kinds.specs.declared.Kind.TheVariants.{And2, Xor2, And3, Xor3, Maj, Mux, AndN, OrN, NandN, NorN, XorN, XnorN, Buf, Dff, Lut}
use Rattle.model.specs.Signal.{Ref, rzero, rnode, rinput, ref, is_inverted}
use Rattle.model.specs.Gate.{Gate, Net, size, is_lut}

-- the bytes of a text
abbrev pub ascii : String → List ℕ
ascii end = []
ascii (then c s) = code c ∷ ascii s

-- ---- numbers, signals, kinds

abbrev pub digit : ℕ → ℕ
digit d = code "0" + d

-- at most k digits of a number, its last ones
unfoldable pub digits : ℕ → ℕ → List ℕ
digits zero n = []
digits (suc k) n = cond (ltb n 10) (digit n ∷ []) (digits k (n / 10) ++ (digit (n % 10) ∷ []))

-- a number in decimal: it has no more digits than units, and one if it is 0
unfoldable pub decimal : ℕ → List ℕ
decimal n = digits (suc n) n

-- a letter and a number: x0, i3, o1
abbrev pub name_text : Char → ℕ → List ℕ
name_text letter k = code letter ∷ decimal k

-- "`!` for inversion"
abbrev pub mark_text : Bool → List ℕ
mark_text false = []
mark_text true = ascii "!"

-- "constants as 0 and 1"; nodes as xK, inputs as iK
abbrev pub ref_text : Ref → Bool → List ℕ
ref_text rzero inverted = decimal (bit inverted)
ref_text (rnode v) inverted = mark_text inverted ++ name_text "x" v
ref_text (rinput k) inverted = mark_text inverted ++ name_text "i" k

unfoldable pub signal_text : ℕ → List ℕ
signal_text s = ref_text (ref s) (is_inverted s)

-- "its kind as in the table (n-ary as AndN, OrN and so on)"
abbrev pub kind_text : Kind → List ℕ
kind_text And2 = ascii "And2"
kind_text Xor2 = ascii "Xor2"
kind_text And3 = ascii "And3"
kind_text Xor3 = ascii "Xor3"
kind_text Maj = ascii "Maj"
kind_text Mux = ascii "Mux"
kind_text AndN = ascii "AndN"
kind_text OrN = ascii "OrN"
kind_text NandN = ascii "NandN"
kind_text NorN = ascii "NorN"
kind_text XorN = ascii "XorN"
kind_text XnorN = ascii "XnorN"
kind_text Buf = ascii "Buf"
kind_text Dff = ascii "Dff"
kind_text Lut = ascii "Lut"

-- ---- lines

-- fields, one space before each
unfoldable pub spaced : List (List ℕ) → List ℕ
spaced [] = []
spaced (field ∷ fields) = (code " " ∷ field) ++ spaced fields

-- a line: its first field, the others, and a newline
unfoldable pub line : List ℕ → List (List ℕ) → List ℕ
line first others = first ++ (spaced others ++ ascii "\n")

-- a line for each element, numbered from k on
unfoldable pub numbered : {A : Type 0} → (ℕ → A → List ℕ) → ℕ → List A → List ℕ
numbered f k [] = []
numbered f k (a ∷ rest) = f k a ++ numbered f (suc k) rest

-- "Line one has the counts"
unfoldable pub counts_line : ℕ → ℕ → ℕ → List ℕ
counts_line inputs nodes outs =
    line (ascii "inputs") (decimal inputs ∷ ascii "nodes" ∷ decimal nodes ∷ ascii "outputs" ∷ decimal outs ∷ [])

-- "Lut adds its table in decimal at the end"
unfoldable pub table_fields : Gate → List (List ℕ)
table_fields g = cond (is_lut g.kind) (decimal g.table ∷ []) []

-- "Each x line has the node, its kind and its inputs"
unfoldable pub node_line : ℕ → Gate → List ℕ
node_line v g = line (name_text "x" v) (kind_text (kind_of g.kind) ∷ (map signal_text g.ins ++ table_fields g))

-- "Each o line has the output and its signal"
unfoldable pub output_line : ℕ → ℕ → List ℕ
output_line o s = line (name_text "o" o) (signal_text s ∷ [])

unfoldable pub listing_of : Net → List ℕ
listing_of N =
    counts_line N.inputs (size N) (length N.outs)
    ++ (numbered node_line 0 N.nodes ++ numbered output_line 0 N.outs)
