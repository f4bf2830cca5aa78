use Rattle.std.proofs.Common.{◌≡◌, subst, None}
use Rattle.c_meaning.specs.Statements.{objects, body_run}
use Rattle.c_meaning.specs.Stores.{opening}
use Rattle.ref_interp.specs.declared.machine.Ending.TheVariants as ending
use Rattle.ref_interp.specs.declared.kernel.Outcome.TheVariants as outcome
use Rattle.ref_interp.specs.Machines.{ended, Given}
use Rattle.ref_interp.proofs.Whole.{says_one, says_returned, says_void, says_missing, says_undefined, says_starved, never_breaks, never_continues}
use Rattle.ref_interp.proofs.kernel.concluded.Goals as goal

pub returns-in-Return : goal.returns-in-Return
returns-in-Return c p i one keeps needs round law h cells given =
    let k = c.args.typed.now in
    let n = c.args.turns in
    let at : body_run (objects p k) k.body (opening (objects p k) i) n ≡ ended (objects p k) k.result ending.Return c.args.m = subst (λ e. body_run (objects p k) k.body (opening (objects p k) i) n ≡ ended (objects p k) k.result e c.args.m) c.in-Return.is h in
    let g = subst (λ e. Given k.result e c.args.m) c.in-Return.is given in
    let s = says_returned k p i n c.args.m c.saturating_sub.result round law at cells g c.saturating_sub.ensures in
    (s, λ u x. says_one k p i n (outcome.Ends c.args.m.cells.arrays c.args.m.value c.saturating_sub.result) u one keeps needs s x)

pub returns-in-None : goal.returns-in-None
returns-in-None c p i one keeps needs round law h cells given =
    let k = c.args.typed.now in
    let n = c.args.turns in
    let at : body_run (objects p k) k.body (opening (objects p k) i) n ≡ ended (objects p k) k.result ending.Normally c.args.m = subst (λ e. body_run (objects p k) k.body (opening (objects p k) i) n ≡ ended (objects p k) k.result e c.args.m) c.in-Normally.is h in
    let s = says_void k p i n c.args.m c.saturating_sub-in-None.result round law at cells c.in-None.is c.saturating_sub-in-None.ensures in
    (s, λ u x. says_one k p i n (outcome.Ends c.args.m.cells.arrays None c.saturating_sub-in-None.result) u one keeps needs s x)

pub returns-in-Some : goal.returns-in-Some
returns-in-Some c p i one keeps needs round law h cells given =
    let k = c.args.typed.now in
    let n = c.args.turns in
    let at : body_run (objects p k) k.body (opening (objects p k) i) n ≡ ended (objects p k) k.result ending.Normally c.args.m = subst (λ e. body_run (objects p k) k.body (opening (objects p k) i) n ≡ ended (objects p k) k.result e c.args.m) c.in-Normally.is h in
    let s = says_missing k p i n c.args.m _ at c.in-Some.is in
    (s, λ u x. says_one k p i n (outcome.Undefined k.at) u one keeps needs s x)

pub returns-in-Undefined : goal.returns-in-Undefined
returns-in-Undefined c p i one keeps needs round law h cells given =
    let k = c.args.typed.now in
    let n = c.args.turns in
    let at : body_run (objects p k) k.body (opening (objects p k) i) n ≡ ended (objects p k) k.result ending.Undefined c.args.m = subst (λ e. body_run (objects p k) k.body (opening (objects p k) i) n ≡ ended (objects p k) k.result e c.args.m) c.in-Undefined.is h in
    let s = says_undefined k p i n c.args.m at in
    (s, λ u x. says_one k p i n (outcome.Undefined c.args.m.trace.at) u one keeps needs s x)

pub returns-in-OutOfTurns : goal.returns-in-OutOfTurns
returns-in-OutOfTurns c p i one keeps needs round law h cells given =
    let k = c.args.typed.now in
    let n = c.args.turns in
    let at : body_run (objects p k) k.body (opening (objects p k) i) n ≡ ended (objects p k) k.result ending.OutOfTurns c.args.m = subst (λ e. body_run (objects p k) k.body (opening (objects p k) i) n ≡ ended (objects p k) k.result e c.args.m) c.in-OutOfTurns.is h in
    let s = says_starved k p i n c.args.m at in
    (s, λ u x. says_one k p i n (outcome.OutOfTurns) u one keeps needs s x)

pub returns-in-Break : goal.returns-in-Break
returns-in-Break c p i one keeps needs round law h cells given =
    let k = c.args.typed.now in
    absurd (never_breaks k p i c.args.turns c.args.m law (subst (λ e. body_run (objects p k) k.body (opening (objects p k) i) c.args.turns ≡ ended (objects p k) k.result e c.args.m) c.in-Break.is h))

pub returns-in-Continue : goal.returns-in-Continue
returns-in-Continue c p i one keeps needs round law h cells given =
    let k = c.args.typed.now in
    absurd (never_continues k p i c.args.turns c.args.m law (subst (λ e. body_run (objects p k) k.body (opening (objects p k) i) c.args.turns ≡ ended (objects p k) k.result e c.args.m) c.in-Continue.is h))
