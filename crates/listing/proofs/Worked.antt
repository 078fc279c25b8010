-- The listing of document 01's worked example, and of a network with the kinds, constants and tables that it has not.
use mathlib.Core.Path.{◌≡◌, refl}
use mathlib.Core.List.{[], ◌∷◌}
use Rattle.kinds.specs.Kinds.{kind_of}
use Rattle.model.specs.Signal.{ref, ref_ix, is_inverted}
use Rattle.model.specs.Gate.{Net}
use Rattle.model.specs.Listing.{ascii, decimal, digits, signal_text, spaced, line, numbered, counts_line, table_fields, node_line, output_line, listing_of}

abbrev pub worked : Net
worked = record {
  inputs = 3;
  nodes =
      record { kind = 0; ins = 4294967292 ∷ 4294967294 ∷ []; table = 0 }
      ∷ record { kind = 0; ins = 2 ∷ 4294967290 ∷ []; table = 0 }
      ∷ [];
  outs = 4 ∷ 3 ∷ [];
}

pub listing_worked : listing_of worked ≡ ascii "inputs 3 nodes 2 outputs 2\nx0 And2 i1 i0\nx1 And2 x0 i2\no0 x1\no1 !x0\n"
unfolding listing_of counts_line node_line output_line table_fields numbered line spaced signal_text decimal digits ref ref_ix is_inverted kind_of
listing_worked = refl

abbrev pub others : Net
others = record {
  inputs = 1024;
  nodes =
      record { kind = 8; ins = 0 ∷ 1 ∷ 4294965249 ∷ []; table = 0 }
      ∷ record { kind = 7; ins = []; table = 0 }
      ∷ record { kind = 14; ins = 2 ∷ 5 ∷ []; table = 10 }
      ∷ [];
  outs = 1 ∷ [];
}

pub listing_others : listing_of others ≡ ascii "inputs 1024 nodes 3 outputs 1\nx0 NandN 0 1 !i1023\nx1 OrN\nx2 Lut x0 !x1 10\no0 1\n"
unfolding listing_of counts_line node_line output_line table_fields numbered line spaced signal_text decimal digits ref ref_ix is_inverted kind_of
listing_others = refl
