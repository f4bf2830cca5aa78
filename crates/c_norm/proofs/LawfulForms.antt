-- The normal form of a lawful kernel is lawful.
use Rattle.std.proofs.Common.{inl, inr, ◌++◌, length, arith, length-append}
use Rattle.std.specs.Prelude.{false}
use Rattle.std.proofs.lemmas.Bool.{cases_lt}
use Rattle.c_ast.specs.declared.typed.Typed.{Typed}
use Rattle.c_meaning.specs.declared.profile.Profile.{Profile}
use Rattle.c_meaning.specs.declared.profile.Profile.TheVariants.{Plain}
use Rattle.c_meaning.specs.Stores.{scalar_types}
use Rattle.c_meaning.specs.Statements.{objects}
use Rattle.c_meaning.specs.Lawful.{Lawful, LawfulNormal, AreUsed, all_vars, all_normal_vars}
use Rattle.c_meaning.proofs.ListParts.{take_first}
use Rattle.c_meaning.proofs.LawfulExpressions.{get_kept}
use Rattle.c_norm.specs.Kernels.{body_form, normal_form}
use Rattle.c_norm.proofs.Kernels.{made_room}
use Rattle.c_norm.proofs.LawfulStmts.{LawfulMade, body_lawful}

-- what is made for the block of a kernel, under a profile
block_made : (k : Typed) → Lawful k → (p : Profile) → (let o = objects p k in LawfulMade o (k.vars ++ (body_form k).types) (get_kept k.vars (body_form k).types) Plain k.result false (length k.vars) (all_vars k.body) (body_form k).stmts (body_form k).types)
block_made k lawful p =
    let types = (body_form k).types in
    body_lawful (objects p k) (k.vars ++ types) (get_kept k.vars types) Plain k.result k.body (length k.vars) (lawful.statements p) (made_room k.vars types)

all_used : (k : Typed) → Lawful k → AreUsed k.params (normal_form k).vars (all_normal_vars (normal_form k).body)
all_used k lawful v lt =
    let h = block_made k lawful Plain in
    let l = length-append k.vars (body_form k).types in
    elim (cases_lt v (length k.vars)) [
      | inl own ↦ elim (lawful.used v own) [ inl s ↦ inl s | inr c ↦ inr (h.kept v c) ]
      | inr more ↦ inr (h.sets v more (omega arith))
    ]

pub form_lawful : (k : Typed) → Lawful k → LawfulNormal (normal_form k)
form_lawful k lawful = record {
  header = λ p.
      let h = lawful.header p in
      record { distinct = h.distinct; dimensions = h.dimensions; few_elements = h.few_elements; first_vars = take_first (scalar_types k.params) k.vars (body_form k).types h.first_vars; arrays_are = h.arrays_are };
  used = all_used k lawful;
  statements = λ p. (block_made k lawful p).lawful;
  quiet = (block_made k lawful Plain).quiet;
}
