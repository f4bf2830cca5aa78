use Rattle.std.proofs.Common.{arith, ◌∙◌, ap, refl, subst, get_or, length, [], List}
use Rattle.net_types.specs.declared.net.Net.{Net}
use Rattle.net_types.specs.declared.net.Unit.{Unit as Kind}
use Rattle.net_core.specs.Fire.{State}
use Rattle.net_core.specs.private.Restores.{AreRestored}
use Rattle.net_core.proofs.RegularLemmas.{opening_tokens}
use Rattle.net_core.proofs.RestoredLemmas.{restored_of, restored_state, strays_long}
use Rattle.net_core.proofs.state.State.restore.Goals as goal

pub fill-requires-clause-none : goal.fill-requires-clause-none
fill-requires-clause-none c = λ x. ap (λ (s : State). get_or s.tokens x []) c.requires.opening ∙ opening_tokens c.args.net.now c.args.parts.now.given x

pub fill-requires-clause-undated : goal.fill-requires-clause-undated
fill-requires-clause-undated c = λ x. ap (λ dss. get_or dss x []) c.requires.undated ∙ opening_tokens c.args.net.now c.args.parts.now.given x

pub copy_from_slice-requires : goal.copy_from_slice-requires
copy_from_slice-requires c =
    let a = strays_long c.args.net.now c.args.self.now c.args.parts.now c.requires.opening c.requires.stands in
    let e = ap (λ (xs : List _). length xs) c.as_slice-3.ensures in
    let o = c.args.self.now.strays.ok.0 in
    omega arith

pub returns-clause-of : goal.returns-clause-of
returns-clause-of c =
    restored_of c.args.net.now c.args.self.now (record { scalars = c.args.self.now.scalars; tokens = c.fill.new.self; cells = c.restore_cells.new.cells; homes = c.args.self.now.homes; strays = c.copy_from_slice.new.self; exit = c.args.self.now.exit })
    c.args.parts.now c.requires.of c.requires.stands
    (subst (λ (us : List Kind). AreRestored c.args.parts.now us c.args.self.now.cells.items c.restore_cells.new.cells.items) (c.as_slice-2.ensures ∙ ap (λ (n : Net). n.units) c.net.ensures.net) c.restore_cells.ensures) refl
    c.fill.ensures.slots (c.fill.ensures.tokens ∙ c.as_slice.ensures) refl

pub returns-clause-state : goal.returns-clause-state
returns-clause-state c =
    restored_state c.args.net.now c.args.self.now (record { scalars = c.args.self.now.scalars; tokens = c.fill.new.self; cells = c.restore_cells.new.cells; homes = c.args.self.now.homes; strays = c.copy_from_slice.new.self; exit = c.args.self.now.exit })
    c.args.parts.now c.requires.of c.requires.stands
    (subst (λ (us : List Kind). AreRestored c.args.parts.now us c.args.self.now.cells.items c.restore_cells.new.cells.items) (c.as_slice-2.ensures ∙ ap (λ (n : Net). n.units) c.net.ensures.net) c.restore_cells.ensures) refl
    c.requires.opening refl (c.fill.ensures.tokens ∙ c.as_slice.ensures) (c.copy_from_slice.ensures.items ∙ c.as_slice-3.ensures)
