use Rattle.std.proofs.Common.{◌<◌, ap, arith, length, map, sym, subst, ◌∙◌, get_or, [], codes}
use Rattle.net_types.specs.declared.net.Net.{Net}
use Rattle.net_types.specs.Nets.{into}
use Rattle.net_text.proofs.ReadLemmas.{none_read, some_read}
use Rattle.snapshot.specs.Texts.{words}
use Rattle.snapshot.specs.private.Words.{ForkFits, list_words}
use Rattle.snapshot.specs.private.Drafts.{ToForks, ToQueues, at_forks, at_queues}
use Rattle.snapshot.proofs.ForkLemmas.{has_none, has_some}
use Rattle.snapshot.proofs.Slims.{few_outs}
use Rattle.snapshot.proofs.Stages2.{fork_pass, fork_refused, fork_taken}
use Rattle.snapshot.proofs.Steps.{pass_result}
use Rattle.snapshot.proofs.stages.take_fork.Goals as goal

pub read_fork-requires : goal.read_fork-requires
read_fork-requires c =
    let e = c.as_slice.ensures ∙ ap (λ (n : Net). n.units) c.net.ensures.net in
    omega (arith, ap length e, c.requires.checked.numbered.units)

pub has_head-requires : goal.has_head-requires
has_head-requires c =
    let e = c.as_slice.ensures ∙ ap (λ (n : Net). n.units) c.net.ensures.net in
    let ws = map (λ w. w.now) c.args.words.now in
    let read = some_read (ForkFits c.as_slice.result.now c.args.from) (list_words (codes "fork")) ws c.in_ok-unit.field-0 (c.in-Some.unit, c.in-Some.outs) c.in-Some.is c.in_ok-unit.ensures in
    let low : c.in-Some.unit < length c.as_slice.result.now = read.0.within in
    omega (arith, low, ap length e, c.requires.checked.numbered.units)

pub set-requires : goal.set-requires
set-requires c =
    let e = c.as_slice.ensures ∙ ap (λ (n : Net). n.units) c.net.ensures.net in
    let ws = map (λ w. w.now) c.args.words.now in
    let read = some_read (ForkFits c.as_slice.result.now c.args.from) (list_words (codes "fork")) ws c.in_ok-unit.field-0 (c.in-Some.unit, c.in-Some.outs) c.in-Some.is c.in_ok-unit.ensures in
    let low : c.in-Some.unit < length c.as_slice.result.now = read.0.within in
    omega (arith, low, ap length e, c.requires.may.fits.by_unit.sent_long)

pub overflow_add-draft : goal.overflow_add-draft
overflow_add-draft c =
    let e = c.as_slice.ensures ∙ ap (λ (n : Net). n.units) c.net.ensures.net in
    let ws = map (λ w. w.now) c.args.words.now in
    let read = some_read (ForkFits c.as_slice.result.now c.args.from) (list_words (codes "fork")) ws c.in_ok-unit.field-0 (c.in-Some.unit, c.in-Some.outs) c.in-Some.is c.in_ok-unit.ensures in
    let low : c.in-Some.unit < length c.as_slice.result.now = read.0.within in
    omega (arith, low, ap length e, c.requires.checked.numbered.units)

pub returns-in_default : goal.returns-in_default
returns-in_default c =
    let e = c.as_slice.ensures ∙ ap (λ (n : Net). n.units) c.net.ensures.net in
    let net = c.args.net.now in
    let d = c.args.draft.now.saved in
    let ws = map (λ w. w.now) c.args.words.now in
    pass_result net (ToForks net c.args.from d) (ToQueues net 0 d) (at_forks net c.args.from) (at_queues net 0) (words ws) c.take_queue.new.draft c.take_queue.result
    (fork_pass net c.requires.checked (few_outs net c.requires.checked) ws c.requires.words c.args.from d c.requires.blank
    (λ p f. none_read (ForkFits c.as_slice.result.now c.args.from) (list_words (codes "fork")) ws c.in_ok-unit.field-0 c.in_default.is c.in_ok-unit.ensures p (subst (λ us. ForkFits us c.args.from p) (sym e) f))) c.take_queue.ensures

pub returns-then-not-has_head : goal.returns-then-not-has_head
returns-then-not-has_head c =
    let e = c.as_slice.ensures ∙ ap (λ (n : Net). n.units) c.net.ensures.net in
    let net = c.args.net.now in
    let d = c.args.draft.now.saved in
    let ws = map (λ w. w.now) c.args.words.now in
    let read = some_read (ForkFits c.as_slice.result.now c.args.from) (list_words (codes "fork")) ws c.in_ok-unit.field-0 (c.in-Some.unit, c.in-Some.outs) c.in-Some.is c.in_ok-unit.ensures in
    fork_refused net c.requires.checked (few_outs net c.requires.checked) ws c.requires.words c.args.from d c.in-Some.unit c.in-Some.outs c.requires.blank
    (subst (λ us. ForkFits us c.args.from (c.in-Some.unit, c.in-Some.outs)) e read.0) read.1
    (has_none (get_or d.parts.tokens (into c.in-Some.unit 0 net.chans) []) c.has_head.result c.if-not-has_head.true c.has_head.ensures.1) c.requires.may.fits.stands.chans

pub returns : goal.returns
returns c =
    let e = c.as_slice.ensures ∙ ap (λ (n : Net). n.units) c.net.ensures.net in
    let net = c.args.net.now in
    let d = c.args.draft.now.saved in
    let ws = map (λ w. w.now) c.args.words.now in
    let read = some_read (ForkFits c.as_slice.result.now c.args.from) (list_words (codes "fork")) ws c.in_ok-unit.field-0 (c.in-Some.unit, c.in-Some.outs) c.in-Some.is c.in_ok-unit.ensures in
    fork_taken net c.requires.checked (few_outs net c.requires.checked) ws c.requires.words c.args.from d c.in-Some.unit c.in-Some.outs c.set.new.self c.requires.may c.requires.blank
    (subst (λ us. ForkFits us c.args.from (c.in-Some.unit, c.in-Some.outs)) e read.0) read.1
    (has_some (get_or d.parts.tokens (into c.in-Some.unit 0 net.chans) []) c.has_head.result c.if-not-has_head.false c.has_head.ensures.0) c.set.ensures
