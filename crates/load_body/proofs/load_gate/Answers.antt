-- `load_gate`: each need by its law.
use mathlib.Core.Path.{refl, ◌∙◌}
use Rattle.load_body.proofs.Loads.{gate_inside, gate_copies, gate_headed, gate_one, gate_behind, gate_ends, gate_free, gate_first, gate_placed}
use Rattle.load_body.proofs.load_gate.Goals as goal

pub nth-h-requires : goal.nth-h-requires
nth-h-requires c = gate_inside _ _ _ _ c.requires

pub overflow_add-at : goal.overflow_add-at
overflow_add-at c = gate_one _ _ _ _ c.requires _ c.nth-h.ensures _ refl c.well_formed.0.0

pub load_inputs-requires : goal.load_inputs-requires
load_inputs-requires c = gate_copies _ _ _ _ c.requires _ c.nth-h.ensures _ refl

pub overflow_cast-first : goal.overflow_cast-first
overflow_cast-first c = gate_first _ _ _ _ c.requires _ c.nth-h.ensures _ refl

pub load_table-extra-requires : goal.load_table-extra-requires
load_table-extra-requires c = gate_headed _ _ _ _ c.requires _ c.nth-h.ensures _ (c.put_gate.auto.net ∙ c.load_inputs.auto.to)

pub overflow_add-result : goal.overflow_add-result
overflow_add-result c = gate_one _ _ _ _ c.requires _ c.nth-h.ensures _ refl c.well_formed.0.0

pub overflow_add-result-2 : goal.overflow_add-result-2
overflow_add-result-2 c = gate_behind _ _ _ _ c.requires _ c.nth-h.ensures _ refl c.well_formed.0.0

pub overflow_add-result-3 : goal.overflow_add-result-3
overflow_add-result-3 c = gate_ends _ _ _ _ c.requires _ c.nth-h.ensures _ refl c.well_formed.0.0 _ _ _ c.load_table-extra.ensures

pub overflow_add-result-4 : goal.overflow_add-result-4
overflow_add-result-4 c = gate_free _ _ _ _ c.requires _ c.nth-h.ensures _ refl

pub shape_of-to : goal.shape_of-to
shape_of-to c = c.load_table-extra.auto.to ∙ c.put_gate.auto.net ∙ c.load_inputs.auto.to

pub returns : goal.returns
returns c = gate_placed _ _ _ _ c.requires _ c.nth-h.ensures _ refl _ _ _ _ c.load_inputs.ensures c.put_gate.ensures c.load_table-extra.ensures
