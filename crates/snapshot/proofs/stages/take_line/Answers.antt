use Rattle.std.proofs.Common.{◌+◌, ◌≡◌, ◌≢◌, ◌<◌, ◌≤◌, ◌⊎◌, arith, ap, length, map, sym, subst, ◌∙◌, refl, get_or, set, List, ℕ, [], false, true, inl, inr}
use Rattle.std.proofs.lemmas.List.{get_or_read}
use Rattle.net_types.specs.declared.net.Net.{Net}
use Rattle.snapshot.specs.Texts.{no_array, no_scalar, words}
use Rattle.snapshot.specs.declared.draft.Stage.{Stage}
use Rattle.snapshot.specs.declared.draft.Stage.TheVariants.{First, Made, Scalars, Fired, Chans, Forks, Queues, Opened, Entries, Arrays, Strays, Ended}
use Rattle.snapshot.specs.private.Drafts.{SaysOfLine, IsBlank, Refuses, Shares, Taken, left_at}
use Rattle.snapshot.proofs.Stages1.{made_refused, made_taken}
use Rattle.snapshot.proofs.Steps.{at_stage}
use Rattle.snapshot.proofs.stages.take_line.Goals as goal

pub returns-in_default : goal.returns-in_default
returns-in_default c =
    let net = c.args.net.now in
    let d = c.args.draft.now.saved in
    let ws = map (λ w. w.now) c.args.words.now in
    let P : Stage → Type 0 = λ s. Refuses net (Shares net s d) (left_at net s) (words ws) in
    subst P (sym c.in-Made.is) (made_refused net ws d c.requires.words c.in_default.ensures)

pub returns-in-Some : goal.returns-in-Some
returns-in-Some c =
    let net = c.args.net.now in
    let d = c.args.draft.now.saved in
    let ws = map (λ w. w.now) c.args.words.now in
    let P : Stage → Type 0 = λ s. Taken net (Shares net s d) (left_at net s) (words ws) (record { stage = Scalars 0; saved = record d { made = c.in-Some.made } }) in
    let B : Stage → Type 0 = λ s. IsBlank net s d in
    subst P (sym c.in-Made.is) (made_taken net ws d c.in-Some.made c.requires.stands.may (subst B c.in-Made.is c.requires.stands.blank) c.requires.words c.in-Some.ensures.0 c.in-Some.ensures.1)

pub returns-in-Scalars : goal.returns-in-Scalars
returns-in-Scalars c =
    at_stage c.args.net.now c.args.draft.now.stage (Scalars c.in-Scalars.next) c.args.draft.now.saved (words (map (λ w. w.now) c.args.words.now)) c.take_scalar.new.draft c.take_scalar.result c.in-Scalars.is c.take_scalar.ensures

pub returns-in-Fired : goal.returns-in-Fired
returns-in-Fired c =
    at_stage c.args.net.now c.args.draft.now.stage (Fired c.in-Fired.from) c.args.draft.now.saved (words (map (λ w. w.now) c.args.words.now)) c.take_fired.new.draft c.take_fired.result c.in-Fired.is c.take_fired.ensures

pub returns-in-Chans : goal.returns-in-Chans
returns-in-Chans c =
    at_stage c.args.net.now c.args.draft.now.stage (Chans c.in-Chans.from) c.args.draft.now.saved (words (map (λ w. w.now) c.args.words.now)) c.take_chan.new.draft c.take_chan.result c.in-Chans.is c.take_chan.ensures

pub returns-in-Forks : goal.returns-in-Forks
returns-in-Forks c =
    at_stage c.args.net.now c.args.draft.now.stage (Forks c.in-Forks.from) c.args.draft.now.saved (words (map (λ w. w.now) c.args.words.now)) c.take_fork.new.draft c.take_fork.result c.in-Forks.is c.take_fork.ensures

pub returns-in-Queues : goal.returns-in-Queues
returns-in-Queues c =
    at_stage c.args.net.now c.args.draft.now.stage (Queues c.in-Queues.from) c.args.draft.now.saved (words (map (λ w. w.now) c.args.words.now)) c.take_queue.new.draft c.take_queue.result c.in-Queues.is c.take_queue.ensures

pub returns-in-Opened : goal.returns-in-Opened
returns-in-Opened c =
    at_stage c.args.net.now c.args.draft.now.stage (Opened c.in-Opened.queue) c.args.draft.now.saved (words (map (λ w. w.now) c.args.words.now)) c.take_opened.new.draft c.take_opened.result c.in-Opened.is c.take_opened.ensures

pub returns-in-Entries : goal.returns-in-Entries
returns-in-Entries c =
    at_stage c.args.net.now c.args.draft.now.stage (Entries c.in-Entries.queue c.in-Entries.read) c.args.draft.now.saved (words (map (λ w. w.now) c.args.words.now)) c.take_entry.new.draft c.take_entry.result c.in-Entries.is c.take_entry.ensures

pub returns-in-Arrays : goal.returns-in-Arrays
returns-in-Arrays c =
    at_stage c.args.net.now c.args.draft.now.stage (Arrays c.in-Arrays.next) c.args.draft.now.saved (words (map (λ w. w.now) c.args.words.now)) c.take_array.new.draft c.take_array.result c.in-Arrays.is c.take_array.ensures

pub returns-in-Strays : goal.returns-in-Strays
returns-in-Strays c =
    let net = c.args.net.now in
    let d = c.args.draft.now.saved in
    let P : Stage → Type 0 = λ s. SaysOfLine net (Shares net s d) (left_at net s) (words (map (λ w. w.now) c.args.words.now)) c.take_stray.result c.take_stray.new.draft in
    subst P (sym c.in-Strays.is) c.take_stray.ensures
