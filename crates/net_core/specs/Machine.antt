-- Lists of firings of any machine.
use Rattle.std.specs.Prelude.{◌≡◌, List, [], ◌∷◌}

-- a machine: states, firings, when a firing is enabled, the state after it
module _ (S F : Type 0) (enabled : S → F → Type 0) (after : S → F → S) where
  -- from a state each firing is enabled after those before it, and the last state is the one after all
  abbrev pub Path : S → List F → S → Type 0
  Path s [] t = s ≡ t
  Path s (f ∷ fs) t = enabled s f × Path (after s f) fs t

  -- no firing is enabled
  abbrev pub Ended : S → Type 0
  Ended s = (f : F) → enabled s f → ⊥

  -- two firings stay enabled after each other and lead to one state
  pub record Commute (s : S) (f g : F) : Type 0 where
    pub g_then : enabled (after s f) g
    pub f_then : enabled (after s g) f
    pub meet : after (after s f) g ≡ after (after s g) f
