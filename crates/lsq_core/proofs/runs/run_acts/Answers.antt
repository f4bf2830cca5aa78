use Rattle.std.proofs.Common.{◌≡◌, ◌+◌, ◌++◌, suc, true, sym, ap, ap₂, ◌∙◌, arith}
use Rattle.lsq_core.specs.Views.{allows, acted, given}
use Rattle.lsq_core.specs.Runs.{put_list, act_at}
use Rattle.lsq_core.proofs.RunLemmas.{allowed_more, after_more, puts_more, join_join}
use Rattle.lsq_core.proofs.runs.run_acts.Goals as goal

pub loop-at-preserved : goal.loop-at-preserved
loop-at-preserved g c =
    let i = c.loop-at.invariant in
    let q = g.Q.Queue.state c.args.queue.now in
    let acts = c.args.acts.now in
    let at = c.loop-at.at in
    let l = c.loop-at-test.true in
    let more : at + 1 ≡ suc at = omega arith in
    let may : allows (g.Q.Queue.state c.loop-at.queue) (act_at acts at).0 ≡ true = sym c.can.ensures ∙ c.if-not-can.false in
    record {
      allowed = rw more (allowed_more q acts at l i.allowed (rw (← i.queue) may));
      queue = c.act.ensures.queue ∙ ap (λ k. acted k (act_at acts at).0 (act_at acts at).1) i.queue ∙ rw more (sym (after_more q acts at l));
      puts = c.note.ensures.items
          ∙ ap₂ (λ xs o. xs ++ put_list o) i.puts (c.act.ensures.put ∙ ap (λ k. (given k (act_at acts at).0 (act_at acts at).1).put) i.queue)
          ∙ join_join c.args.puts.now.items _ _ ∙ ap (λ xs. c.args.puts.now.items ++ xs) (rw more (sym (puts_more q acts at l)));
      room = (let r = c.note.ensures.room in let s = i.room in omega arith);
      next = (let r = c.act.ensures.next in let s = i.next in omega arith);
    }
