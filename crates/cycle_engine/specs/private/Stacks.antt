-- Private: only contracts of this crate cite it. What a stack shows.
use Rattle.std.specs.Prelude.{List, refl}
use Rattle.std.specs.Coded.{Coded, code_by, coded_list}

-- the items, the lowest first
pub record Stacked (T : Type 0) : Type 0 where
  pub items : List T

abbrev pub stacked_code : {T : Type 0} → Coded T → Coded (Stacked T)
stacked_code {T} c = code_by (List T) (coded_list c) (λ s. s.items) (λ l. record { items = l }) (λ _. refl)
