-- `fit_at`: each need by its law.
use mathlib.Core.Path.{ap}
use mathlib.Core.Bool.{not}
use borrow.Author.Rules.{rules}
use Rattle.records.proofs.Fits.{fit_header, fit_lut, fit_lut_long, fit_past, fit_plain, fit_plain_long, fit_table, lut_count}
use Rattle.records.proofs.fit_at.Goals as goal

pub returns-then-lim-at : goal.returns-then-lim-at
returns-then-lim-at c = fit_past _ _ _ c.if-lim-at.true

pub returns-then-not-header_ok : goal.returns-then-not-header_ok
returns-then-not-header_ok c = fit_header _ _ _ _ c.nth-h.ensures _ c.header_ok.ensures (ap not c.if-not-header_ok.true)

pub returns-then-lim-at-2 : goal.returns-then-lim-at-2
returns-then-lim-at-2 c = fit_plain_long _ _ _ _ c.nth-h.ensures _ c.header_ok.ensures (ap not c.if-not-header_ok.false) c.if-lim-at.false c.if-h.true c.if-lim-at-2.true

pub returns-then-h : goal.returns-then-h
returns-then-h c = fit_plain _ _ _ _ c.nth-h.ensures _ c.header_ok.ensures (ap not c.if-not-header_ok.false) c.if-lim-at.false c.if-h.true c.if-lim-at-2.false

pub returns-then-lim-at-3 : goal.returns-then-lim-at-3
returns-then-lim-at-3 c = fit_lut_long _ _ _ _ c.nth-h.ensures _ c.header_ok.ensures (ap not c.if-not-header_ok.false) c.if-lim-at.false c.if-h.false c.if-lim-at-3.true

pub table_ok-requires : goal.table_ok-requires
table_ok-requires c = search (rules, lut_count)

pub returns-then-table_ok : goal.returns-then-table_ok
returns-then-table_ok c = fit_lut _ _ _ _ c.nth-h.ensures _ c.header_ok.ensures (ap not c.if-not-header_ok.false) c.if-lim-at.false c.if-h.false c.if-lim-at-3.false _ _ c.nth-lo.ensures c.nth-hi.ensures _ c.table_ok.ensures c.if-table_ok.true

pub returns : goal.returns
returns c = fit_table _ _ _ _ c.nth-h.ensures _ c.header_ok.ensures (ap not c.if-not-header_ok.false) c.if-lim-at.false c.if-h.false c.if-lim-at-3.false _ _ c.nth-lo.ensures c.nth-hi.ensures _ c.table_ok.ensures c.if-table_ok.false
