use Rattle.std.proofs.Common.{◌≡◌, ◌∙◌, ℕ, ◌+◌, ◌%◌, ◌++◌, ◌∷◌, [], Bool, List, cond, length, get_or, set, sym, ap, arith}
use Rattle.std.proofs.lemmas.Bool.{lt-ltb}
use native.Mathlib.Nat.{mod-add-mod}
use Rattle.net_types.specs.Nets.{chan_at}
use Rattle.cycle_engine.specs.private.Marking.{cells_of}
use Rattle.cycle_engine.proofs.notes.Notes.note_put.Goals as goal

pub returns-in_ok-add : goal.returns-in_ok-add
returns-in_ok-add c =
    c.in_ok-add.ensures ∙ (ap with_at place ∙ sym (ap (λ (b : Bool). cond b (with_at ((c.args.now + delay) % length cells)) cells) (lt-ltb 0 delay (omega (arith, c.delay_of-delay.ensures.delay, c.if-delay-gt0.true)))))
  where
    cells : List (List ℕ)
    cells = cells_of c.args.self.now

    delay : ℕ
    delay = (chan_at c.args.net.now c.args.chan).delay

    with_at : ℕ → List (List ℕ)
    with_at i = set cells i (get_or cells i [] ++ c.args.chan ∷ [])

    place : c.place-place.result ≡ (c.args.now + delay) % length cells
    place =
        c.place-place.ensures.place ∙ (ap (λ n. (n + c.delay_of-delay.result) % length cells) c.place.ensures.place
        ∙ (mod-add-mod c.args.now (length cells) c.delay_of-delay.result ∙ ap (λ n. (c.args.now + n) % length cells) c.delay_of-delay.ensures.delay))
