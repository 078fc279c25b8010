-- Each kind by its case.
use mathlib.Core.Path.{refl, ap}
use mathlib.Core.Bool.{not}
use lib.Dec.{ltb}
use Rattle.kinds.specs.declared.Kind.TheVariants.{And3, Xor3, Maj, AndN, OrN, NandN, NorN, XorN, XnorN, Dff}
use Rattle.signal_values.proofs.Bits.{bit_odd}
use Rattle.values.proofs.Deciding.{or_is}
use Rattle.values.proofs.Dispatch.{and_2_inputs, xor_2_inputs, mux_inputs, buf_inputs, lut_inputs, by_ones, by_ones_of, and_2_value, xor_2_value, buf_value, mux_value, lut_value_lem}
use Rattle.values.proofs.gate_word.Goals as goal

pub and_2-requires : goal.and_2-requires
and_2-requires c = and_2_inputs _ _ _ _ _ _ c.requires c.of-ins.ensures c.kind_at.ensures c.kind_of.ensures c.in-And2.is

pub xor_2-requires : goal.xor_2-requires
xor_2-requires c = xor_2_inputs _ _ _ _ _ _ c.requires c.of-ins.ensures c.kind_at.ensures c.kind_of.ensures c.in-Xor2.is

pub mux-requires : goal.mux-requires
mux-requires c = mux_inputs _ _ _ _ _ _ c.requires c.of-ins.ensures c.kind_at.ensures c.kind_of.ensures c.in-Mux.is

pub buf-requires : goal.buf-requires
buf-requires c = buf_inputs _ _ _ _ _ _ c.requires c.of-ins.ensures c.kind_at.ensures c.kind_of.ensures c.in-Buf.is

pub lut-requires : goal.lut-requires
lut-requires c = lut_inputs _ _ _ _ _ _ c.requires c.of-ins.ensures c.kind_at.ensures c.kind_of.ensures c.in-Lut.is

pub returns-in-And2 : goal.returns-in-And2
returns-in-And2 c = and_2_value _ _ _ _ _ _ c.requires c.of-ins.ensures c.kind_at.ensures c.kind_of.ensures _ c.in-And2.is c.and_2.ensures

pub returns-in-Xor2 : goal.returns-in-Xor2
returns-in-Xor2 c = xor_2_value _ _ _ _ _ _ c.requires c.of-ins.ensures c.kind_at.ensures c.kind_of.ensures _ c.in-Xor2.is c.xor_2.ensures

pub returns-in-Buf : goal.returns-in-Buf
returns-in-Buf c = buf_value _ _ _ _ _ _ c.requires c.of-ins.ensures c.kind_at.ensures c.kind_of.ensures _ c.in-Buf.is c.buf.ensures

pub returns-in-Mux : goal.returns-in-Mux
returns-in-Mux c = bit_odd _ _ _ c.from-in-Mux.ensures (mux_value _ _ _ _ _ _ c.requires c.of-ins.ensures c.kind_at.ensures c.kind_of.ensures _ c.in-Mux.is c.mux.ensures)

pub returns-in-Lut : goal.returns-in-Lut
returns-in-Lut c = bit_odd _ _ _ c.from-in-Lut.ensures (lut_value_lem _ _ _ _ _ _ c.requires c.of-ins.ensures c.kind_at.ensures c.kind_of.ensures _ c.in-Lut.is c.lut.ensures)

pub returns-in-And3 : goal.returns-in-And3
returns-in-And3 c = bit_odd _ _ _ c.from.ensures (by_ones_of _ _ _ _ _ _ c.requires c.of-ins.ensures c.kind_at.ensures c.kind_of.ensures _ And3 AndN c.in-And3.is refl refl c.all_are.ensures refl)

pub returns-in-Xor3 : goal.returns-in-Xor3
returns-in-Xor3 c = bit_odd _ _ _ c.from-in-Xor3.ensures (by_ones_of _ _ _ _ _ _ c.requires c.of-ins.ensures c.kind_at.ensures c.kind_of.ensures _ Xor3 XorN c.in-Xor3.is refl refl c.odd.ensures refl)

pub returns-in-NandN : goal.returns-in-NandN
returns-in-NandN c = bit_odd _ _ _ c.from-in-NandN.ensures (by_ones _ _ _ _ _ _ c.requires c.of-ins.ensures c.kind_at.ensures c.kind_of.ensures _ NandN c.in-NandN.is refl (ap not c.all_are-in-NandN.ensures))

pub returns-in-OrN : goal.returns-in-OrN
returns-in-OrN c = bit_odd _ _ _ c.from-in-OrN.ensures (by_ones _ _ _ _ _ _ c.requires c.of-ins.ensures c.kind_at.ensures c.kind_of.ensures _ OrN c.in-OrN.is refl (or_is _ _ c.all_are-in-OrN.ensures))

pub returns-in-NorN : goal.returns-in-NorN
returns-in-NorN c = bit_odd _ _ _ c.from-in-NorN.ensures (by_ones _ _ _ _ _ _ c.requires c.of-ins.ensures c.kind_at.ensures c.kind_of.ensures _ NorN c.in-NorN.is refl c.all_are-in-NorN.ensures)

pub returns-in-XnorN : goal.returns-in-XnorN
returns-in-XnorN c = bit_odd _ _ _ c.from-in-XnorN.ensures (by_ones _ _ _ _ _ _ c.requires c.of-ins.ensures c.kind_at.ensures c.kind_of.ensures _ XnorN c.in-XnorN.is refl (ap not c.odd-in-XnorN.ensures))

pub returns-in-Maj : goal.returns-in-Maj
returns-in-Maj c = bit_odd _ _ _ c.from-in-Maj.ensures (by_ones _ _ _ _ _ _ c.requires c.of-ins.ensures c.kind_at.ensures c.kind_of.ensures _ Maj c.in-Maj.is refl (ap (ltb 1) c.ones.ensures))

pub returns-in-Dff : goal.returns-in-Dff
returns-in-Dff c = by_ones _ _ _ _ _ _ c.requires c.of-ins.ensures c.kind_at.ensures c.kind_of.ensures _ Dff c.in-Dff.is refl refl
