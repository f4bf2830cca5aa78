-- What feeds each unit, told for the first units or channels, and units that lack a token beside another.
use Rattle.std.proofs.Common.{◌≡◌, ℕ, zero, suc, ◌+◌, ◌<◌, ◌≤◌, ◌⊎◌, inl, inr, Bool, true, false, cond, Option, unwrap_or, Some, None, IsSomeAnd, List, [], ◌∷◌, ◌++◌, length, get_or, refl, sym, ap, subst, ◌∙◌, arith}
use Rattle.std.proofs.lemmas.Bool.{cases_lt}
use Rattle.std.proofs.lemmas.List.{get_or_append_left, get_or_past}
use Rattle.net_types.specs.declared.net.Net.{Net}
use Rattle.net_types.specs.declared.net.Unit.{Unit as Kind}
use Rattle.net_types.specs.declared.net.Unit.TheVariants.{Op2, Select, Mux, Branch}
use Rattle.net_types.specs.declared.firing.Act.{Act}
use Rattle.net_types.specs.declared.firing.Act.TheVariants.{Go}
use Rattle.net_types.specs.declared.firing.Firing.{Firing}
use Rattle.net_types.specs.Nets.{kind_of, chan_at, into, uses}
use Rattle.net_core.specs.Fire.{State, Own, Row, Take, Setting, Effect, effect, effect_of, with_head, taking, on_go, row, idle, at_array, setting, first, head_at, tokens_at}
use Rattle.cycle_engine.specs.declared.feeds.Feeds.{Feeds}
use Rattle.cycle_engine.specs.private.Marking.{AreFeeds, IsLacking, IsStarved, asked, asks_first, beside, in_turn, partner, partner_place}
use Rattle.cycle_engine.proofs.MarkLemmas.{get_last}

-- for the first units is told the channel that each asks of
abbrev pub FirstsAreTold : Net → List (Option ℕ) → ℕ → Type 0
FirstsAreTold net firsts n = (u : ℕ) → u < n → get_or firsts u None ≡ asked net u

pub firsts_more : (net : Net) (xs : List (Option ℕ)) (x : Option ℕ) (n : ℕ) → length xs ≡ n → x ≡ asked net n → FirstsAreTold net xs n → FirstsAreTold net (xs ++ x ∷ []) (n + 1)
firsts_more net xs x n long e h u l = by (cases_lt u n)
  where
    by : (u < n) ⊎ (n ≤ u) → get_or (xs ++ x ∷ []) u None ≡ asked net u
    by (inl m) = get_or_append_left xs (x ∷ []) None u (omega arith) ∙ h u m
    by (inr m) =
        let i : u ≡ length xs = omega arith in
        let j : n ≡ u = omega arith in
        ap (λ k. get_or (xs ++ x ∷ []) k None) i ∙ (get_last xs x None ∙ (e ∙ ap (asked net) j))

-- for the first channels is told the one beside each
abbrev pub PartnersAreTold : Net → List ℕ → ℕ → Type 0
PartnersAreTold net partners n = (d : ℕ) → d < n → get_or partners d (length net.chans) ≡ partner net d

pub partners_more : (net : Net) (xs : List ℕ) (x n : ℕ) → length xs ≡ n → x ≡ partner net n → PartnersAreTold net xs n → PartnersAreTold net (xs ++ x ∷ []) (n + 1)
partners_more net xs x n long e h d l = by (cases_lt d n)
  where
    by : (d < n) ⊎ (n ≤ d) → get_or (xs ++ x ∷ []) d (length net.chans) ≡ partner net d
    by (inl m) = get_or_append_left xs (x ∷ []) (length net.chans) d (omega arith) ∙ h d m
    by (inr m) =
        let i : d ≡ length xs = omega arith in
        let j : n ≡ d = omega arith in
        ap (λ k. get_or (xs ++ x ∷ []) k (length net.chans)) i ∙ (get_last xs x (length net.chans) ∙ (e ∙ ap (partner net) j))

-- ---- units that want a token beside another

none_taken : (p : ℕ) (next : ℕ → Row) (h : ℕ → Option ℕ) → h p ≡ None → effect_of (Take p next) h ≡ None
none_taken p next h n = ap (λ o. with_head o (λ v. taking p (effect_of (next v) h))) n

-- where a row has no effect after any head, it has none
still_none : (p : ℕ) (next : ℕ → Row) (h : ℕ → Option ℕ) → ((v : ℕ) → effect_of (next v) h ≡ None) → effect_of (Take p next) h ≡ None
still_none p next h n = by (h p)
  where
    by : (o : Option ℕ) → with_head o (λ v. taking p (effect_of (next v) h)) ≡ None
    by None = refl
    by (Some v) = ap (taking p) (n v)

none_on_go : (a : Act) (r : Row) (h : ℕ → Option ℕ) → effect_of r h ≡ None → effect_of (on_go a r) h ≡ None
none_on_go Go r h n = n
none_on_go _ r h n = refl

one_none : (a : Act) (next : ℕ → Row) (h : ℕ → Option ℕ) → h 0 ≡ None → effect_of (on_go a (Take 0 next)) h ≡ None
one_none a next h n = none_on_go a (Take 0 next) h (none_taken 0 next h n)

two_none : (a : Act) (p : ℕ) (last : ℕ → ℕ → Row) (h : ℕ → Option ℕ) → h (beside p) ≡ None → effect_of (on_go a (Take 0 (λ v. Take 1 (last v)))) h ≡ None
two_none a p last h n = none_on_go a (Take 0 (λ v. Take 1 (last v))) h (by p n)
  where
    by : (p : ℕ) → h (beside p) ≡ None → effect_of (Take 0 (λ v. Take 1 (last v))) h ≡ None
    by zero n = still_none 0 (λ v. Take 1 (last v)) h (λ v. none_taken 1 (last v) h n)
    by (suc p) n = none_taken 0 (λ v. Take 1 (last v)) h n

three_none : (a : Act) (p : ℕ) (last : ℕ → ℕ → ℕ → Row) (h : ℕ → Option ℕ) → h (in_turn p) ≡ None → effect_of (on_go a (Take 0 (λ v. Take 1 (λ w. Take 2 (last v w))))) h ≡ None
three_none a p last h n = none_on_go a (Take 0 from_second) h (by p n)
  where
    from_second : ℕ → Row
    from_second v = Take 1 (λ w. Take 2 (last v w))

    by : (p : ℕ) → h (in_turn p) ≡ None → effect_of (Take 0 from_second) h ≡ None
    by zero n = still_none 0 from_second h (λ v. none_taken 1 (λ w. Take 2 (last v w)) h n)
    by (suc zero) n = still_none 0 from_second h (λ v. still_none 1 (λ w. Take 2 (last v w)) h (λ w. none_taken 2 (last v w) h n))
    by (suc (suc p)) n = none_taken 0 from_second h n

lacks_none : (k : Kind) (p : ℕ) (a : Act) (o : Own) (xs : List ℕ) (ss : Setting) (h : ℕ → Option ℕ) → IsSomeAnd (partner_place k p) (λ q. h q ≡ None) → effect_of (row k a o xs ss) h ≡ None
unfolding row
lacks_none (Op2 op) p a o xs ss h n = two_none a p _ h n
lacks_none (Select w) p a o xs ss h n = three_none a p _ h n
lacks_none (Mux w ins) zero a o xs ss h n = absurd n
lacks_none (Mux w ins) (suc p) a o xs ss h n = one_none a _ h n
lacks_none (Branch w) p a o xs ss h n = two_none a p _ h n
lacks_none _ p a o xs ss h n = absurd n

-- a unit that wants a token beside another does not fire
pub lacking_quiet : (net : Net) (s : State) (g : Firing) (d : ℕ) (e : Effect) → effect net s g ≡ Some e → (chan_at net d).to.unit ≡ g.unit → IsLacking net s d → ⊥
lacking_quiet net s g d e q at lacks =
    let P : ℕ → Type 0 = λ u. IsSomeAnd (partner_place (kind_of net u) (chan_at net d).to.place) (λ p. head_at net s u p ≡ None) in
    let n = lacks_none (kind_of net g.unit) (chan_at net d).to.place g.act (get_or s.own g.unit idle) (at_array s.arrays (uses (kind_of net g.unit))) (setting net s) (head_at net s g.unit) (subst P at lacks) in
    let z : None ≡ Some e = sym n ∙ q in
    cc

-- a unit that asks of a channel without a token wants one
pub starved_by : (net : Net) (s : State) (f : Feeds) (u d : ℕ) → AreFeeds net f → get_or f.firsts.items u None ≡ Some d → first (tokens_at s d) ≡ None → IsStarved net s u
starved_by net s f u d feeds e none = by (asks_first (kind_of net u)) refl (sym (feeds.firsts.each u within) ∙ e)
  where
    within : u < length net.units
    within = at (cases_lt u (length net.units))
      where
        at : (u < length net.units) ⊎ (length net.units ≤ u) → u < length net.units
        at (inl l) = l
        at (inr l) = (let n = feeds.firsts.long in let z : None ≡ Some d = sym (get_or_past f.firsts.items u None (omega arith)) ∙ e in cc)

    by : (b : Bool) → asks_first (kind_of net u) ≡ b → cond b (Some (into u 0 net.chans)) None ≡ Some d → IsStarved net s u
    by true i k = (i, ap (λ o. first (tokens_at s (unwrap_or o 0))) k ∙ none)
    by false i k = cc
