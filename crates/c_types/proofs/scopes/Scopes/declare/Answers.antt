use Rattle.std.proofs.Common.{◌≡◌, ◌∷◌, reverse, true, false, sym, subst, ◌∙◌, ap}
use Rattle.indexmap.specs.IndexMap.{insert_entry}
use Rattle.c_types.specs.Scopes.{is_new_in, with_entry, outer_scopes}
use Rattle.c_types.proofs.Lookups.{same_name, known_name, known_stays, new_name, new_enters}
use Rattle.c_types.proofs.scopes.Scopes.declare.Goals as goal

pub returns-then-contains_key-clause-is : goal.returns-then-contains_key-clause-is
returns-then-contains_key-clause-is g c =
    sym (subst (λ s. is_new_in s c.args.name.now ≡ false) c.self.view_is
    (known_name c.args.name.now c.self.inside.inner.entries (outer_scopes c.self.inside.outer.items) c.self.invariant.0 (sym c.contains_key.ensures ∙ c.if-contains_key.true)))

pub returns-then-contains_key-clause-scopes : goal.returns-then-contains_key-clause-scopes
returns-then-contains_key-clause-scopes g c =
    sym (subst (λ s. with_entry c.args.name.now c.args.item s ≡ s) c.self.view_is
    (known_stays c.args.name.now c.args.item c.self.inside.inner.entries (outer_scopes c.self.inside.outer.items) c.self.invariant.0 (sym c.contains_key.ensures ∙ c.if-contains_key.true)))

pub returns-clause-is : goal.returns-clause-is
returns-clause-is g c =
    sym (subst (λ s. is_new_in s c.args.name.now ≡ true) c.self.view_is
    (new_name c.args.name.now c.self.inside.inner.entries (outer_scopes c.self.inside.outer.items) c.self.invariant.0 (sym c.contains_key.ensures ∙ c.if-contains_key.false)))

pub returns-clause-scopes : goal.returns-clause-scopes
returns-clause-scopes g c =
    ap (λ es. reverse es ∷ outer_scopes c.self.inside.outer.items) (c.in_ok-insert.ensures.entries ∙ ap (λ x. insert_entry same_name c.self.inside.inner.entries x c.args.item) c.in_ok-copy.ensures)
    ∙ sym (new_enters c.args.name.now c.args.item c.self.inside.inner.entries (outer_scopes c.self.inside.outer.items) c.self.invariant.0 (sym c.contains_key.ensures ∙ c.if-contains_key.false))
    ∙ ap (with_entry c.args.name.now c.args.item) c.self.view_is
