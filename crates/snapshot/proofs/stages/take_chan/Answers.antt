use Rattle.std.proofs.Common.{◌+◌, ◌≡◌, ◌≢◌, ◌<◌, ◌≤◌, ◌⊎◌, arith, ap, length, map, sym, subst, ◌∙◌, refl, get_or, set, List, ℕ, [], false, true, inl, inr, codes}
use Rattle.std.proofs.lemmas.List.{get_or_read}
use Rattle.net_types.specs.declared.net.Net.{Net}
use Rattle.net_types.specs.declared.net.Chan.{Chan}
use Rattle.net_types.specs.Nets.{nowhere, kind_of}
use Rattle.net_text.proofs.ReadLemmas.{none_read, some_read}
use Rattle.snapshot.specs.Texts.{words}
use Rattle.snapshot.proofs.Steps.{pass_result}
use Rattle.snapshot.specs.private.Words.{ChanFits, list_words}
use Rattle.snapshot.specs.private.Drafts.{ToChans, ToForks, at_chans, at_forks}
use Rattle.snapshot.proofs.Slims.{chan_slim, chan_thin}
use Rattle.snapshot.proofs.Stages2.{chan_pass, chan_taken}
use Rattle.snapshot.proofs.stages.take_chan.Goals as goal

pub read_chan-requires-clause-slim : goal.read_chan-requires-clause-slim
read_chan-requires-clause-slim c =
    let e = c.as_slice.ensures ∙ ap (λ (n : Net). n.chans) c.net.ensures.net in
    let P : List Chan → Type 0 = λ cs. (i : ℕ) → i < length cs → (get_or cs i nowhere).width ≤ 64 in
    subst P (sym e) (λ i l. chan_slim c.args.net.now c.requires.checked i l)

pub returns-in_default : goal.returns-in_default
returns-in_default c =
    let e = c.as_slice.ensures ∙ ap (λ (n : Net). n.chans) c.net.ensures.net in
    let net = c.args.net.now in
    let d = c.args.draft.now.saved in
    let ws = map (λ w. w.now) c.args.words.now in
    pass_result net (ToChans net c.args.from d) (ToForks net 0 d) (at_chans net c.args.from) (at_forks net 0) (words ws) c.take_fork.new.draft c.take_fork.result
    (chan_pass net c.requires.checked (chan_thin net c.requires.checked) ws c.requires.words c.args.from d c.requires.blank
    (λ p f. none_read (ChanFits c.as_slice.result.now c.args.from) (list_words (codes "chan")) ws c.in_ok-chan.field-0 c.in_default.is c.in_ok-chan.ensures p (subst (λ cs. ChanFits cs c.args.from p) (sym e) f))) c.take_fork.ensures

pub returns : goal.returns
returns c =
    let e = c.as_slice.ensures ∙ ap (λ (n : Net). n.chans) c.net.ensures.net in
    let net = c.args.net.now in
    let ws = map (λ w. w.now) c.args.words.now in
    let read = some_read (ChanFits c.as_slice.result.now c.args.from) (list_words (codes "chan")) ws c.in_ok-chan.field-0 (c.in-Some.chan, c.in-Some.tokens) c.in-Some.is c.in_ok-chan.ensures in
    chan_taken net c.requires.checked (chan_thin net c.requires.checked) ws c.requires.words c.args.from c.args.draft.now.saved c.in-Some.chan c.in-Some.tokens c.set.new.self c.requires.may c.requires.blank
    (subst (λ cs. ChanFits cs c.args.from (c.in-Some.chan, c.in-Some.tokens)) e read.0) read.1 c.set.ensures
