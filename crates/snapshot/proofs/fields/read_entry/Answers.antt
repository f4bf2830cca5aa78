use Rattle.std.proofs.Common.{Bor, ℕ, List, [], refl, arith}
use Rattle.std.proofs.lemmas.Bool.{false≢true}
use Rattle.snapshot.specs.private.Words.{EntryIsOf, entry_fields}
use Rattle.snapshot.proofs.EntryLemmas.{reads_nothing, port_other, addr_other, datum_other, done_other, value_other, replied_other, own_entry, other_entry}
use Rattle.snapshot.proofs.fields.read_entry.Goals as goal

pub returns-in_err-port : goal.returns-in_err-port
returns-in_err-port c =
    reads_nothing (EntryIsOf c.args.width c.args.ports.now) entry_fields _ _ c.from_residual.ensures
    (port_other {A = Bor (List ℕ)} (λ w. w.now) c.args.words.now (record { ref_ptr = (0, 0); now = [] }) c.args.width c.args.ports.now c.in_err-port.ensures)

pub returns-in_err-read_maybe : goal.returns-in_err-read_maybe
returns-in_err-read_maybe c =
    reads_nothing (EntryIsOf c.args.width c.args.ports.now) entry_fields _ _ c.from_residual-in_err-read_maybe.ensures
    (addr_other {A = Bor (List ℕ)} (λ w. w.now) c.args.words.now (record { ref_ptr = (0, 0); now = [] }) c.args.width c.args.ports.now c.in_err-read_maybe.ensures)

pub returns-in_err-read_maybe-2 : goal.returns-in_err-read_maybe-2
returns-in_err-read_maybe-2 c =
    reads_nothing (EntryIsOf c.args.width c.args.ports.now) entry_fields _ _ c.from_residual-in_err-read_maybe-2.ensures
    (datum_other {A = Bor (List ℕ)} (λ w. w.now) c.args.words.now (record { ref_ptr = (0, 0); now = [] }) c.args.width c.args.ports.now c.in_err-read_maybe-2.ensures)

pub returns-in_err-read_digit : goal.returns-in_err-read_digit
returns-in_err-read_digit c =
    reads_nothing (EntryIsOf c.args.width c.args.ports.now) entry_fields _ _ c.from_residual-in_err-read_digit.ensures
    (done_other {A = Bor (List ℕ)} (λ w. w.now) c.args.words.now (record { ref_ptr = (0, 0); now = [] }) c.args.width c.args.ports.now c.in_err-read_digit.ensures)

pub returns-in_err-read_pattern : goal.returns-in_err-read_pattern
returns-in_err-read_pattern c =
    reads_nothing (EntryIsOf c.args.width c.args.ports.now) entry_fields _ _ c.from_residual-in_err-read_pattern.ensures
    (value_other {A = Bor (List ℕ)} (λ w. w.now) c.args.words.now (record { ref_ptr = (0, 0); now = [] }) c.args.width c.args.ports.now c.in_err-read_pattern.ensures)

pub returns-in_err-read_digit-2 : goal.returns-in_err-read_digit-2
returns-in_err-read_digit-2 c =
    reads_nothing (EntryIsOf c.args.width c.args.ports.now) entry_fields _ _ c.from_residual-in_err-read_digit-2.ensures
    (replied_other {A = Bor (List ℕ)} (λ w. w.now) c.args.words.now (record { ref_ptr = (0, 0); now = [] }) c.args.width c.args.ports.now c.in_err-read_digit-2.ensures)

pub returns-then-is_sound : goal.returns-then-is_sound
returns-then-is_sound c =
    own_entry {A = Bor (List ℕ)} (λ w. w.now) c.args.words.now (record { ref_ptr = (0, 0); now = [] }) c.args.width c.args.ports.now
    (record { serial = c.in_ok-read_u64.field-0; port = c.in_ok-port.port; store = c.is_store.result; addr = c.in_ok-read_maybe.field-0; datum = c.in_ok-read_maybe-2.field-0; done = c.in_ok-read_digit.field-0; value = c.in_ok-read_pattern.field-0; replied = c.in_ok-read_digit-2.field-0 })
    (record { serial = c.in_ok-read_u64.ensures.named; port = c.in_ok-port.ensures; side = c.is_store.ensures; addr = c.in_ok-read_maybe.ensures; datum = c.in_ok-read_maybe-2.ensures; done = c.in_ok-read_digit.ensures.1; value = c.in_ok-read_pattern.ensures; replied = c.in_ok-read_digit-2.ensures.1 })
    (omega arith) (c.if-is_sound.ensures.0 refl)

pub returns-else-is_sound : goal.returns-else-is_sound
returns-else-is_sound c =
    other_entry {A = Bor (List ℕ)} (λ w. w.now) c.args.words.now (record { ref_ptr = (0, 0); now = [] }) c.args.width c.args.ports.now
    (record { serial = c.in_ok-read_u64.field-0; port = c.in_ok-port.port; store = c.is_store.result; addr = c.in_ok-read_maybe.field-0; datum = c.in_ok-read_maybe-2.field-0; done = c.in_ok-read_digit.field-0; value = c.in_ok-read_pattern.field-0; replied = c.in_ok-read_digit-2.field-0 })
    (record { serial = c.in_ok-read_u64.ensures.named; port = c.in_ok-port.ensures; side = c.is_store.ensures; addr = c.in_ok-read_maybe.ensures; datum = c.in_ok-read_maybe-2.ensures; done = c.in_ok-read_digit.ensures.1; value = c.in_ok-read_pattern.ensures; replied = c.in_ok-read_digit-2.ensures.1 })
    c.requires.thin c.requires.few (λ g. false≢true (c.if-is_sound.ensures.1 g))
