use Rattle.std.proofs.Common.{◌≡◌, Some, None, sym, ap, ◌∙◌}
use Rattle.std.proofs.lemmas.List.Elements.{All-pop}
use Rattle.std.specs.Map.{lookup}
use Rattle.indexmap.specs.IndexMap.{IsUnique}
use Rattle.c_types.specs.Scopes.{declared_in, outer_scopes}
use Rattle.c_types.proofs.Lookups.{same_name, found_here, found_outside, last_scope}
use Rattle.c_types.proofs.scopes.+find_outer.Goals as goal

pub returns-in-Some : goal.returns-in-Some
returns-in-Some g t c =
    let at : lookup (same_name c.args.name.now) c.in_ok-last.last.now.entries ≡ Some c.in-Some.item = cc (c.get.ensures.value, c.copied.ensures, c.in-Some.is) in
    sym (ap (λ s. declared_in s c.args.name.now) (last_scope c.args.outer.now c.in_ok-last.rest.now c.in_ok-last.last.now c.in_ok-last.ensures.cases.0)
    ∙ found_here c.args.name.now c.in-Some.item c.in_ok-last.last.now.entries (outer_scopes c.in_ok-last.rest.now)
    (All-pop (IsUnique same_name) c.args.outer.now c.in_ok-last.rest.now (Some c.in_ok-last.last.now) c.in_ok-last.ensures.cases.0 c.requires).1 at)

pub returns-in-None : goal.returns-in-None
returns-in-None g t c =
    let none : lookup (same_name c.args.name.now) c.in_ok-last.last.now.entries ≡ None = cc (c.get.ensures.value, c.copied.ensures, c.in-None.is) in
    c.find_outer.ensures
    ∙ sym (ap (λ s. declared_in s c.args.name.now) (last_scope c.args.outer.now c.in_ok-last.rest.now c.in_ok-last.last.now c.in_ok-last.ensures.cases.0)
    ∙ found_outside c.args.name.now c.in_ok-last.last.now.entries (outer_scopes c.in_ok-last.rest.now)
    (All-pop (IsUnique same_name) c.args.outer.now c.in_ok-last.rest.now (Some c.in_ok-last.last.now) c.in_ok-last.ensures.cases.0 c.requires).1 none)
