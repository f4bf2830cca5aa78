-- Workers one of whose links was drained.
use Rattle.std.proofs.Common.{◌≡◌, ℕ, Option, Some, None, IsSome, List, ◌++◌, get_or, set, refl, ◌∙◌, sym, subst}
use Rattle.std.proofs.lemmas.Grind.{get_or-set_at}
use Rattle.elastic_link.specs.declared.put_end.PutEnd.{PutEnd}
use Rattle.elastic_link.specs.declared.take_end.TakeEnd.{TakeEnd}
use Rattle.elastic_link.specs.Ends.{IsLink, tokens_put, tokens_taken}
use Rattle.net_worker.specs.Handed.{IsLeft}
use Rattle.net_worker.specs.Local.{values}
use Rattle.net_worker.specs.Views.{put_end, take_end}
use Rattle.net_worker.specs.declared.worker.Worker.{Worker}
use Rattle.net_worker.proofs.Settling.{put_within, take_within}

one_some : {X : Type 0} (o : Option X) (x y : X) → o ≡ Some x → o ≡ Some y → y ≡ x
one_some o x y a b = let e : Some x ≡ Some y = sym a ∙ b in let k : x ≡ y = cc in sym k

-- the ends that are there after a write are those that were written
pub linked_drained : (a b : Worker) (c : ℕ) (p : PutEnd) (e : TakeEnd) → IsSome (put_end a c) → IsSome (take_end b c) → IsLink p e
    → (q : PutEnd) (d : TakeEnd) → get_or (set a.puts.items c (Some p)) c None ≡ Some q → get_or (set b.takes.items c (Some e)) c None ≡ Some d → IsLink q d
linked_drained a b c p e put take link q d is_put is_take =
    let at_put : get_or (set a.puts.items c (Some p)) c None ≡ Some p = get_or-set_at a.puts.items c c (Some p) None refl (put_within a c put) in
    let at_take : get_or (set b.takes.items c (Some e)) c None ≡ Some e = get_or-set_at b.takes.items c c (Some e) None refl (take_within b c take) in
    subst (λ z. IsLink z d) (sym (one_some (get_or (set a.puts.items c (Some p)) c None) p q at_put is_put))
    (subst (IsLink p) (sym (one_some (get_or (set b.takes.items c (Some e)) c None) e d at_take is_take)) link)

pub left_drained : (a b : Worker) (c : ℕ) (p : PutEnd) (e : TakeEnd) (xs : List ℕ) → put_end a c ≡ Some p → take_end b c ≡ Some e → values (tokens_taken e) ++ xs ≡ values (tokens_put p) → IsLeft c a b xs
left_drained a b c p e xs is_put is_take h q d put take =
    subst (λ z. values (tokens_taken d) ++ xs ≡ values (tokens_put z)) (sym (one_some (put_end a c) p q is_put put))
    (subst (λ z. values (tokens_taken z) ++ xs ≡ values (tokens_put p)) (sym (one_some (take_end b c) e d is_take take)) h)
