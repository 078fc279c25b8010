-- `same_gate`: each need by its law.
use Prim.Native.Nat.{ℕ, ◌<◌, ◌^◌}
use native.Mathlib.Omega.{arith}
use mathlib.Core.Path.{sym, ap, ◌∙◌}
use Rattle.tables.specs.Layout.{low_at}
use Rattle.same_gate.specs.Listed.{same_ins}
use Rattle.same_gate.proofs.Searches.{kind_differs, count_differs, inputs_differ, table_decides}
use Rattle.same_gate.proofs.same_gate.Goals as goal

pub returns-then-g-kind_at : goal.returns-then-g-kind_at
returns-then-g-kind_at c = let a = c.args in
    kind_differs a.to.now a.w a.g (λ e. c.if-g-kind_at.true (e ∙ sym c.kind_at.ensures))

pub returns-then-g-count_at : goal.returns-then-g-count_at
returns-then-g-count_at c = let a = c.args in
    count_differs a.to.now a.w a.g (λ e. c.if-g-count_at.true (e ∙ sym c.count_at.ensures))

pub returns-then-not-same_inputs : goal.returns-then-not-same_inputs
returns-then-not-same_inputs c = let a = c.args in
    inputs_differ a.to.now a.w a.g c.same_inputs.result (c.if-g-count_at.false ∙ c.count_at.ensures)
    (c.same_inputs.ensures ∙ ap (λ (f : ℕ). same_ins a.to.now f a.g.n) c.first_at.ensures) c.if-not-same_inputs.true

pub returns : goal.returns
returns c = let a = c.args in
    let lo : low_at a.to.now a.w < 2 ^ 32 = rw (← c.low_at.ensures) c.low_at.type_inv in
    rw (c.low_at.ensures, c.high_at.ensures)
    (table_decides a.to.now a.w a.g c.same_inputs.result (c.if-g-kind_at.false ∙ c.kind_at.ensures) (c.if-g-count_at.false ∙ c.count_at.ensures)
    (c.same_inputs.ensures ∙ ap (λ (f : ℕ). same_ins a.to.now f a.g.n) c.first_at.ensures) c.if-not-same_inputs.false (omega (arith, c.well_formed)) lo)
