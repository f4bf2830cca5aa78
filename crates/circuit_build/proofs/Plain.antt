-- Each channel that is laid has one slot and delay 1.
use Rattle.std.proofs.Common.{◌≡◌, ℕ, [], ◌∷◌, refl, sym, subst, Bool}
use Rattle.std.specs.Prelude.{All}
use Rattle.std.proofs.lemmas.List.Elements.{All-nil, All-cons, All-append}
use Rattle.net_types.specs.declared.net.Place.{Place}
use Rattle.net_types.specs.declared.net.Chan.{Chan}
use Rattle.circuit_build.specs.declared.draft.Draft.{Draft}
use Rattle.circuit_build.specs.Drafts.{with_chan}
use Rattle.circuit_build.specs.Laws.{ChannelsHaveOneSlot}
use Rattle.circuit_build.proofs.Keeps.{Laid, Free, free, free_few, whole_keeps}

abbrev IsPlain : Chan → Type 0
IsPlain c = (c.slots ≡ 1) × (c.delay ≡ 1)

abbrev ArePlain : Draft → Type 0
ArePlain d = All IsPlain d.chans

more_plain : (p q : Place) (w : ℕ) (c : Bool) (d : Draft) → ArePlain d → ArePlain (with_chan p q w c d)
more_plain p q w c d h =
    let x : Chan = record { from = p; to = q; width = w; slots = 1; delay = 1; ctl = c } in
    All-append IsPlain d.chans (x ∷ []) h (All-cons IsPlain x [] (refl, refl) (All-nil IsPlain))

any : Laid (λ k. Unit {0}) (λ n. Unit {0}) Free
any = record {
  const = λ w n. tt;
  op1 = λ op. tt;
  op2 = λ op. tt;
  select = λ w. tt;
  fork1 = λ w. tt;
  forks = λ w n l o. tt;
  mux = λ w n i. tt;
  merge = λ n i. tt;
  branch = λ w. tt;
  sink = λ w. tt;
}

pub one_slot : ChannelsHaveOneSlot
one_slot g gs = whole_keeps ArePlain (λ k. Unit {0}) (λ n. Unit {0}) Free any (λ k d f h. h) more_plain (λ d e u c h. subst (All IsPlain) (sym c) h) (λ a. tt) (λ j. tt) (λ a m ps gs. tt) tt g gs (λ t. tt) (free g.blocks) free_few (All-nil IsPlain)
