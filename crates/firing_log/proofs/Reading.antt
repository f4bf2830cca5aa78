-- The first entry of a log, and those after it.
use Rattle.std.proofs.Common.{◌≡◌, ℕ, suc, ◌+◌, ◌<◌, ◌^◌, Bool, true, false, cond, List, [], ◌∷◌, Some, None, get_or, refl, ap, ◌∙◌, sym, arith}
use Rattle.std.proofs.lemmas.List.Elements.{All-head, All-rest}
use Rattle.std.proofs.lemmas.Option.{none-some, same_Some}
use Rattle.std.specs.List.{slice_get}
use Rattle.firing_log.specs.declared.entry.Entry.{Entry}
use Rattle.firing_log.specs.declared.firing_log.Made.{Made}
use Rattle.firing_log.specs.Families.{has_number, has_serial}
use Rattle.firing_log.specs.Made.{entries_of, entry_after, past_if, stamp_after, HaveStamps}

abbrev Fitting : Entry → Type 0
Fitting e = e.stamp < 2 ^ 64

-- what a clause of the first firing says
same_first : (m k : Made) (ms : List Made) → Some m ≡ slice_get (k ∷ ms) 0 → k ≡ m
same_first m k ms is = sym (same_Some m k is)

head_fits : (n : ℕ) (m k : Made) (ms : List Made) (ns ss ts : List ℕ) → k ≡ m → m.jumps ≡ false → HaveStamps (entries_of n (k ∷ ms) ns ss ts) → n + 1 < 2 ^ 64
head_fits n m k ms ns ss ts is next have =
    let head = All-head Fitting (entry_after n k ns ss ts) (entries_of (stamp_after n k ts) ms (past_if (has_number k.family) ns) (past_if (has_serial k.family) ss) (past_if k.jumps ts)) have in
    let stamp : stamp_after n k ts ≡ suc n = ap (λ (b : Bool). cond b (get_or ts 0 0) (suc n)) (ap (λ (x : Made). x.jumps) is ∙ next) in
    omega (arith, head, stamp)

-- a stamp that is the next is a number of 64 bits
pub next_fits : (n : ℕ) (m : Made) (ms : List Made) (ns ss ts : List ℕ) → Some m ≡ slice_get ms 0 → m.jumps ≡ false → HaveStamps (entries_of n ms ns ss ts) → n + 1 < 2 ^ 64
next_fits n m [] ns ss ts is next have = absurd (none-some m (sym is))
next_fits n m (k ∷ ms) ns ss ts is next have = head_fits n m k ms ns ss ts (same_first m k ms is) next have

pub none_left : (n : ℕ) (ms : List Made) (ns ss ts : List ℕ) → slice_get (entries_of n ms ns ss ts) 0 ≡ None → entries_of n ms ns ss ts ≡ []
none_left n [] ns ss ts is = refl
none_left n (m ∷ ms) ns ss ts is = absurd (none-some (entry_after n m ns ss ts) (sym is))

-- the entries after the one of this firing, whose stamp is n
abbrev pub later_of : ℕ → Made → List Made → List ℕ → List ℕ → List ℕ → List Entry
later_of n m ms ns ss ts = entries_of n (past_if true ms) (past_if (has_number m.family) ns) (past_if (has_serial m.family) ss) (past_if m.jumps ts)

head_and_later : (n : ℕ) (m k : Made) (e : Entry) (ms : List Made) (ns ss ts : List ℕ) → k ≡ m → entry_after n k ns ss ts ≡ e
    → entries_of n (k ∷ ms) ns ss ts ≡ e ∷ later_of e.stamp m (k ∷ ms) ns ss ts
head_and_later n m k e ms ns ss ts is first =
    ap (λ (x : Entry). x ∷ later_of x.stamp k (k ∷ ms) ns ss ts) first
    ∙ ap (λ (x : Made). e ∷ later_of e.stamp x (k ∷ ms) ns ss ts) is

pub next_is : (n : ℕ) (m : Made) (e : Entry) (ms : List Made) (ns ss ts : List ℕ) → Some m ≡ slice_get ms 0 → Some e ≡ slice_get (entries_of n ms ns ss ts) 0
    → entries_of n ms ns ss ts ≡ e ∷ later_of e.stamp m ms ns ss ts
next_is n m e [] ns ss ts is first = absurd (none-some m (sym is))
next_is n m e (k ∷ ms) ns ss ts is first =
    head_and_later n m k e ms ns ss ts (same_first m k ms is) (sym (same_Some e (entry_after n k ns ss ts) first))

pub later_stamps : (n : ℕ) (m : Made) (e : Entry) (ms : List Made) (ns ss ts : List ℕ) → Some m ≡ slice_get ms 0 → Some e ≡ slice_get (entries_of n ms ns ss ts) 0
    → HaveStamps (entries_of n ms ns ss ts) → HaveStamps (later_of e.stamp m ms ns ss ts)
later_stamps n m e ms ns ss ts is first have =
    All-rest Fitting e (later_of e.stamp m ms ns ss ts) (entries_of n ms ns ss ts) (next_is n m e ms ns ss ts is first) have

-- the entries of the parts that are left after the first entry was read
pub later_is : (n : ℕ) (m : Made) (ms ms' : List Made) (ns ss ts ns' ss' ts' : List ℕ) (p q : Bool)
    → ms' ≡ past_if true ms → ns' ≡ past_if p ns → p ≡ has_number m.family → ss' ≡ past_if q ss → q ≡ has_serial m.family → ts' ≡ past_if m.jumps ts
    → entries_of n ms' ns' ss' ts' ≡ later_of n m ms ns ss ts
later_is n m ms ms' ns ss ts ns' ss' ts' p q made numbers number serials serial stamps =
    ap (λ (v : List Made). entries_of n v ns' ss' ts') made
    ∙ (ap (λ (v : List ℕ). entries_of n (past_if true ms) v ss' ts') (numbers ∙ ap (λ (b : Bool). past_if b ns) number)
    ∙ (ap (λ (v : List ℕ). entries_of n (past_if true ms) (past_if (has_number m.family) ns) v ts') (serials ∙ ap (λ (b : Bool). past_if b ss) serial)
    ∙ ap (λ (v : List ℕ). entries_of n (past_if true ms) (past_if (has_number m.family) ns) (past_if (has_serial m.family) ss) v) stamps))
