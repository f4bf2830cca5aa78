use Rattle.std.proofs.Common.{[], sym, subst, ap, ◌∙◌, ◌≡◌, List, length, replicate, refl}
use Rattle.net_types.specs.declared.net.Unit.{Unit as Kind}
use Rattle.net_core.specs.private.Openings.{AreFresh, AreOwners, AreHomes, IsExitIn}
use Rattle.net_core.specs.States.{slots_in, with_slots}
use Rattle.net_core.specs.declared.state.State.{State as Stored}
use Rattle.net_core.proofs.OpenLemmas.{no_tokens, opened_of, opened_state, same_held}
use Rattle.net_core.proofs.state.State.without_channels.Goals as goal

-- the clauses of what is called, of the net and of the inputs
module _ (c : goal.After-drop-owners-2) where
  units : c.as_slice-units.result.now ≡ c.args.net.now.units
  units = c.as_slice-units.ensures ∙ ap (λ n. n.units) c.net.ensures.net

  arrays : c.as_slice-arrays.result.now ≡ c.args.inputs.now.arrays
  arrays = c.as_slice-arrays.ensures

  fresh : AreFresh c.args.inputs.now.arrays c.args.net.now.units c.in_ok-cells.cells.items
  fresh = subst (λ (ks : List Kind). AreFresh c.args.inputs.now.arrays ks c.in_ok-cells.cells.items) units (subst (λ xss. AreFresh xss c.as_slice-units.result.now c.in_ok-cells.cells.items) arrays c.in_ok-cells.ensures)

  owners_long : length c.in_ok-owners.owners.items ≡ length c.args.inputs.now.arrays
  owners_long = c.in_ok-owners.ensures.len ∙ ap length arrays

  are_owners : AreOwners c.args.net.now.units (length c.args.net.now.units) c.in_ok-owners.owners.items
  are_owners = subst (λ (ks : List Kind). AreOwners ks (length ks) c.in_ok-owners.owners.items) units c.in_ok-owners.ensures.all

  homes_long : length c.in_ok-homes.homes.items ≡ length c.args.inputs.now.arrays
  homes_long = c.in_ok-homes.ensures.len ∙ ap length arrays

  are_homes : AreHomes c.in_ok-owners.owners.items c.args.inputs.now.arrays c.in_ok-homes.homes.items
  are_homes = subst (λ os. AreHomes os c.args.inputs.now.arrays c.in_ok-homes.homes.items) c.as_slice.ensures.value (subst (λ xss. AreHomes c.as_slice.result.now xss c.in_ok-homes.homes.items) arrays c.in_ok-homes.ensures.all)

  exit_in : IsExitIn c.args.net.now.units c.exit_of-exit.result
  exit_in = subst (λ (ks : List Kind). IsExitIn ks c.exit_of-exit.result) units c.exit_of-exit.ensures

  strays : c.in_ok-strays.strays.items ≡ replicate (length c.args.inputs.now.arrays) 0
  strays = c.in_ok-strays.ensures.items_if_clones_equal (λ y e. e) ∙ ap (λ xss. replicate (length xss) 0) arrays

  abbrev made : Stored
  made = record { scalars = c.in_ok-scalars.scalars; tokens = c.in_ok-tokens.tokens; cells = c.in_ok-cells.cells; homes = c.in_ok-homes.homes; strays = c.in_ok-strays.strays; exit = c.exit_of-exit.result }

pub returns-clause-of : goal.returns-clause-of
returns-clause-of c =
    opened_of c.args.net.now c.args.inputs.now (with_slots (slots_in c.args.net.now) (made c)) c.in_ok-owners.owners.items c.net.ensures.checked c.requires
    (fresh c) (owners_long c) (are_owners c) (homes_long c) (are_homes c) (exit_in c) refl (no_tokens c.args.net.now.chans)

pub returns-clause-state : goal.returns-clause-state
returns-clause-state c =
    opened_state c.args.net.now c.args.inputs.now (with_slots (slots_in c.args.net.now) (made c)) c.in_ok-owners.owners.items c.net.ensures.checked c.requires
    (fresh c) (owners_long c) (are_owners c) (homes_long c) (are_homes c) (exit_in c) c.in_ok-scalars.ensures (no_tokens c.args.net.now.chans) (strays c)

pub returns-clause-none : goal.returns-clause-none
returns-clause-none c = sym (same_held c.in_ok-tokens.tokens [] c.in_ok-tokens.ensures.tokens c.in_ok-tokens.ensures.slots c.in_ok-tokens.ensures.dates)
