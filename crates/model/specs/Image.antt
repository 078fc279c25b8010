-- The image (document 01, "The image"): bytes to a network and back, the numbers 2 to 7, and record k.
use Rattle.std.specs.Prelude.{ℕ, zero, suc, ◌+◌, ◌-◌, ◌*◌, ◌/◌, ◌%◌, ◌<◌, Bool, true, cond, ◌&&◌, List, [], ◌∷◌, ◌++◌, length, get_or, take, drop, eqb, leb, ltb}
use Rattle.model.specs.Gate.{Gate, Net, size, is_lut, fits_code, fits_table, fanin, wired, is_topo_sorted}

-- ---- bytes and words: little-endian 32-bit words, at any byte alignment

-- each element is a byte, or a 32-bit word, as in every slice of them
abbrev pub Bytes : List ℕ → Type 0
Bytes b = (i : ℕ) → get_or b i 0 < 256

abbrev pub Words32 : List ℕ → Type 0
Words32 ws = (i : ℕ) → get_or ws i 0 < 4294967296

-- four bytes as a word
abbrev pub le4 : ℕ → ℕ → ℕ → ℕ → ℕ
le4 a b c d = a + b * 256 + c * 65536 + d * 16777216

-- the word whose first byte is at `at`
unfoldable pub word_at : List ℕ → ℕ → ℕ
word_at b at = le4 (get_or b at 0) (get_or b (at + 1) 0) (get_or b (at + 2) 0) (get_or b (at + 3) 0)

-- the words of a list of bytes, from its front; what is left of fewer than four bytes is no word
unfoldable pub words : List ℕ → List ℕ
words [] = []
words (a ∷ []) = []
words (a ∷ b ∷ []) = []
words (a ∷ b ∷ c ∷ []) = []
words (a ∷ b ∷ c ∷ d ∷ r) = le4 a b c d ∷ words r

-- a word's four bytes
abbrev pub le_word : ℕ → List ℕ
le_word w = w % 256 ∷ w / 256 % 256 ∷ w / 65536 % 256 ∷ w / 16777216 ∷ []

-- the bytes of a list of words
unfoldable pub bytes : List ℕ → List ℕ
bytes [] = []
bytes (w ∷ ws) = le_word w ++ bytes ws

-- ---- a record: a header, the inputs, and for a Lut the table's low and high words

-- a header: code + 256 x input count, its top 8 bits zero
unfoldable pub header_ok : ℕ → Bool
header_ok h = ltb h 16777216 && fits_code (h % 256) (h / 256)

-- the record at a position of the words
unfoldable pub code_at : List ℕ → ℕ → ℕ
code_at ws at = get_or ws at 0 % 256

unfoldable pub count_at : List ℕ → ℕ → ℕ
count_at ws at = get_or ws at 0 / 256

-- table words behind the inputs
abbrev pub extra : ℕ → ℕ
extra code = cond (is_lut code) 2 0

unfoldable pub size_at : List ℕ → ℕ → ℕ
size_at ws at = 1 + count_at ws at + extra (code_at ws at)

unfoldable pub table_at : List ℕ → ℕ → ℕ
table_at ws at =
    cond (is_lut (code_at ws at))
    (get_or ws (at + 1 + count_at ws at) 0 + get_or ws (at + 2 + count_at ws at) 0 * 4294967296)
    0

unfoldable pub record_gate : List ℕ → ℕ → Gate
record_gate ws at = record { kind = code_at ws at; ins = take (count_at ws at) (drop (at + 1) ws); table = table_at ws at }

unfoldable pub sound_at : List ℕ → ℕ → Bool
sound_at ws at = header_ok (get_or ws at 0) && fits_table (code_at ws at) (count_at ws at) (table_at ws at)

-- k records from a position on: their gates, whether each is sound, and the position past them
unfoldable pub gates_from : ℕ → List ℕ → ℕ → List Gate
gates_from zero ws at = []
gates_from (suc k) ws at = record_gate ws at ∷ gates_from k ws (at + size_at ws at)

unfoldable pub sound_from : ℕ → List ℕ → ℕ → Bool
sound_from zero ws at = true
sound_from (suc k) ws at = sound_at ws at && sound_from k ws (at + size_at ws at)

unfoldable pub end_from : ℕ → List ℕ → ℕ → ℕ
end_from zero ws at = at
end_from (suc k) ws at = end_from k ws (at + size_at ws at)

-- ---- an image: records, outputs, and a trailer of four words: inputs, nodes, outputs, and D

abbrev pub inputs_in : List ℕ → ℕ
inputs_in img = word_at img (length img - 16)

abbrev pub nodes_in : List ℕ → ℕ
nodes_in img = word_at img (length img - 12)

abbrev pub outs_in : List ℕ → ℕ
outs_in img = word_at img (length img - 8)

-- D, the distance in bytes from the first record to the end
abbrev pub span_in : List ℕ → ℕ
span_in img = word_at img (length img - 4)

-- the part starting D bytes before the end; bytes ahead of it are a prefix, ignored
unfoldable pub body_of : List ℕ → List ℕ
body_of img = drop (length img - span_in img) img

unfoldable pub words_of : List ℕ → List ℕ
words_of img = words (body_of img)

-- the network of i inputs, n nodes and o outputs in the words of a body
unfoldable pub net_in : ℕ → ℕ → ℕ → List ℕ → Net
net_in i n o ws = record { inputs = i; nodes = gates_from n ws 0; outs = take o (drop (end_from n ws 0) ws) }

unfoldable pub net_of : List ℕ → Net
net_of img = net_in (inputs_in img) (nodes_in img) (outs_in img) (words_of img)

-- ---- the numbers 2 to 7, in their order

-- not 2: "image below 16 bytes; D below 16, not a multiple of 4, or past the start"
unfoldable pub framed : List ℕ → Bool
framed img = leb 16 (length img) && (leb 16 (span_in img) && (eqb (span_in img % 4) 0 && leb (span_in img) (length img)))

-- not 3: "over 1,024 inputs, 512 nodes or 64 outputs"
unfoldable pub within : List ℕ → Bool
within img = leb (inputs_in img) 1024 && (leb (nodes_in img) 512 && leb (outs_in img) 64)

-- not 4: "a record breaks the layout above, or the records do not end where the outputs begin"
unfoldable pub laid : ℕ → ℕ → List ℕ → Bool
laid n o ws = sound_from n ws 0 && eqb (end_from n ws 0 + (o + 4)) (length ws)

-- 4; 5, "over 2,048 gate inputs in all"; 6, "a signal names an absent input or node"; else 0
unfoldable pub body_refusal : ℕ → ℕ → ℕ → List ℕ → ℕ
body_refusal i n o ws =
    cond (laid n o ws)
    (cond (leb (fanin (net_in i n o ws).nodes) 2048)
    (cond (wired (net_in i n o ws)) 0 6) 5) 4

-- 2 to 6, or 0
unfoldable pub refusal_of : List ℕ → ℕ
refusal_of img =
    cond (framed img)
    (cond (within img)
    (body_refusal (inputs_in img) (nodes_in img) (outs_in img) (words_of img)) 3) 2

-- 2 to 7, "not sorted", or 0
unfoldable pub sorted_refusal_of : List ℕ → ℕ
sorted_refusal_of img = cond (eqb (refusal_of img) 0) (cond (is_topo_sorted (net_of img)) 0 7) (refusal_of img)

-- ---- record k: "the part of the image holding record k, or an empty part if the image meets any of 2 to 6 or k is no node"

unfoldable pub record_in : List ℕ → ℕ → List ℕ
record_in b k = take (4 * size_at (words b) (end_from k (words b) 0)) (drop (4 * end_from k (words b) 0) b)

unfoldable pub has_record : List ℕ → ℕ → Bool
has_record img k = eqb (refusal_of img) 0 && ltb k (nodes_in img)

unfoldable pub record_of : List ℕ → ℕ → List ℕ
record_of img k = cond (has_record img k) (record_in (body_of img) k) []

-- the byte of the image where that part begins; 0 if it is empty
unfoldable pub record_at_of : List ℕ → ℕ → ℕ
record_at_of img k = cond (has_record img k) (length img - span_in img + 4 * end_from k (words_of img) 0) 0

-- ---- the image of a network: "A writer writes no prefix"

unfoldable pub table_words : Gate → List ℕ
table_words g = cond (is_lut g.kind) ((g.table % 4294967296) ∷ (g.table / 4294967296) ∷ []) []

unfoldable pub gate_words : Gate → List ℕ
gate_words g = (g.kind + 256 * length g.ins) ∷ (g.ins ++ table_words g)

unfoldable pub gates_words : List Gate → List ℕ
gates_words [] = []
gates_words (g ∷ gs) = gate_words g ++ gates_words gs

-- records and outputs
unfoldable pub body_words : Net → List ℕ
body_words n = gates_words n.nodes ++ n.outs

unfoldable pub net_words : Net → List ℕ
net_words n = body_words n ++ (n.inputs ∷ size n ∷ length n.outs ∷ (4 * (length (body_words n) + 4)) ∷ [])

unfoldable pub image_of : Net → List ℕ
image_of n = bytes (net_words n)
