use Rattle.std.proofs.Common.{◌≡◌, true, false, get_or, ℕ, suc, ◌-◌, map, arith, sym, ap, ◌∙◌, length-set}
use Rattle.net_core.specs.Fire.{sent_to}
use Rattle.net_core.specs.private.Sents.{count_false, is_marked}
use Rattle.net_core.proofs.SentLemmas.{set_count, send_view, send_more, send_last, last_count}
use Rattle.net_core.proofs.sent.Sent.send.Goals as goal

pub overflow_sub-self : goal.overflow_sub-self
overflow_sub-self c =
    let h : get_or (map (is_marked c.self.inside.mark) c.self.inside.bits.items) c.args.out true ≡ false = ap (λ xs. get_or xs c.args.out true) c.self.view_is ∙ c.requires in
    let s = set_count (map (is_marked c.self.inside.mark) c.self.inside.bits.items) c.args.out h in
    let i : c.self.inside.left ≡ count_false (map (is_marked c.self.inside.mark) c.self.inside.bits.items) = c.self.invariant in
    omega arith

left_count : (left n m : ℕ) → left ≡ n → n ≡ suc m → m ≡ left - 1
left_count left n m a b = omega arith

pub invariant_of-self : goal.invariant_of-self
invariant_of-self c =
    let h : get_or (map (is_marked c.self.inside.mark) c.self.inside.bits.items) c.args.out true ≡ false = ap (λ xs. get_or xs c.args.out true) c.self.view_is ∙ c.requires in
    let e = left_count c.self.inside.left _ _ c.self.invariant (set_count (map (is_marked c.self.inside.mark) c.self.inside.bits.items) c.args.out h) in
    c.len-self-inside.ensures ∙ (c.self.inside.bits.ok.0 ∙ (sym (length-set c.self.inside.bits.items c.args.out c.self.inside.mark) ∙ sym (last_count c.self.inside.mark c.self.inside.bits.items c.args.out (e ∙ c.if-self-eq0.true))))

pub invariant_of-self-else-self-eq0 : goal.invariant_of-self-else-self-eq0
invariant_of-self-else-self-eq0 c =
    let h : get_or (map (is_marked c.self.inside.mark) c.self.inside.bits.items) c.args.out true ≡ false = ap (λ xs. get_or xs c.args.out true) c.self.view_is ∙ c.requires in
    let e = left_count c.self.inside.left _ _ c.self.invariant (set_count (map (is_marked c.self.inside.mark) c.self.inside.bits.items) c.args.out h) in
    sym e ∙ sym (ap count_false (send_view c.self.inside.mark c.self.inside.bits.items c.args.out))

pub returns-then-self-eq0 : goal.returns-then-self-eq0
returns-then-self-eq0 c =
    let h : get_or (map (is_marked c.self.inside.mark) c.self.inside.bits.items) c.args.out true ≡ false = ap (λ xs. get_or xs c.args.out true) c.self.view_is ∙ c.requires in
    let e = left_count c.self.inside.left _ _ c.self.invariant (set_count (map (is_marked c.self.inside.mark) c.self.inside.bits.items) c.args.out h) in
    send_last c.self.inside.mark c.self.inside.bits.items c.args.out (e ∙ c.if-self-eq0.true) ∙ ap (sent_to c.args.out) c.self.view_is

pub returns-else-self-eq0 : goal.returns-else-self-eq0
returns-else-self-eq0 c =
    let h : get_or (map (is_marked c.self.inside.mark) c.self.inside.bits.items) c.args.out true ≡ false = ap (λ xs. get_or xs c.args.out true) c.self.view_is ∙ c.requires in
    let e = left_count c.self.inside.left _ _ c.self.invariant (set_count (map (is_marked c.self.inside.mark) c.self.inside.bits.items) c.args.out h) in
    send_more c.self.inside.mark c.self.inside.bits.items c.args.out h (let n = c.if-self-eq0.false in omega arith) ∙ ap (sent_to c.args.out) c.self.view_is
