use Rattle.std.proofs.Common.{◌+◌, ◌≡◌, ◌≢◌, ◌<◌, ◌≤◌, ◌⊎◌, arith, ap, length, map, sym, subst, ◌∙◌, refl, get_or, set, List, ℕ, [], false, true, inl, inr}
use Rattle.std.proofs.lemmas.List.{get_or_read}
use Rattle.net_types.specs.declared.net.Net.{Net}
use Rattle.net_types.specs.declared.net.Unit.{Unit as Kind}
use Rattle.net_types.specs.declared.net.Unit.TheVariants.{Sink}
use Rattle.net_types.specs.Nets.{kind_of, into}
use Rattle.net_text.proofs.ReadLemmas.{none_read, some_read}
use Rattle.snapshot.specs.Texts.{no_array, no_scalar, words}
use Rattle.snapshot.proofs.Steps.{pass_answer, pass_result}
use Rattle.snapshot.specs.private.Words.{ValueIsOf}
use Rattle.snapshot.specs.private.Drafts.{ToChans, ToValue, at_chans, at_value}
use Rattle.snapshot.proofs.Stages2.{value_pass, value_refused, value_taken}
use Rattle.snapshot.proofs.stages.take_value.Goals as goal

pub returns-in_default : goal.returns-in_default
returns-in_default c =
    let net = c.args.net.now in
    let d = c.args.draft.now.saved in
    let ws = map (λ w. w.now) c.args.words.now in
    pass_result net (ToValue net d) (ToChans net 0 d) (at_value net) (at_chans net 0) (words ws) c.take_chan.new.draft c.take_chan.result
    (value_pass net c.requires.checked ws c.requires.words d c.requires.may c.requires.blank c.in_default.is) c.take_chan.ensures

pub returns-in_default-read_value : goal.returns-in_default-read_value
returns-in_default-read_value c =
    let e = ap (λ (n : Net). n.result) c.net.ensures.net in
    let net = c.args.net.now in
    let d = c.args.draft.now.saved in
    let ws = map (λ w. w.now) c.args.words.now in
    value_refused net c.requires.checked ws c.requires.words d c.requires.may c.requires.blank c.in-Some.field-0 c.in-Some.is
    (λ w f. c.in_default-read_value.ensures w (subst (λ o. ValueIsOf o w) (sym e) f))

pub returns : goal.returns
returns c =
    let e = ap (λ (n : Net). n.result) c.net.ensures.net in
    let net = c.args.net.now in
    let d = c.args.draft.now.saved in
    let ws = map (λ w. w.now) c.args.words.now in
    let w = c.in-Some-read_value.value in
    value_taken net c.requires.checked ws c.requires.words d c.requires.may c.requires.blank c.in-Some.field-0 w c.in-Some.is
    (subst (λ o. ValueIsOf o w) e c.in-Some-read_value.ensures.0) c.in-Some-read_value.ensures.1
