-- The normal form of a whole kernel.
use Rattle.std.specs.Prelude.{◌++◌, length}
use Rattle.c_ast.specs.declared.typed.Typed.{Typed}
use Rattle.c_ast.specs.declared.normal.Normal.{Normal}
use Rattle.c_meaning.specs.declared.profile.Profile.TheVariants.{Plain}
use Rattle.c_meaning.specs.Statements.{objects}
use Rattle.c_norm.specs.Forms.{Made, all_forms}

-- types alone are asked of the kernel's objects, so the profile makes no difference
abbrev pub body_form : Typed → Made
body_form k = all_forms (objects Plain k) (length k.vars) k.body

-- the variables that are made come after the kernel's
abbrev pub normal_form : Typed → Normal
normal_form k = record {
  name = k.name;
  at = k.at;
  result = k.result;
  params = k.params;
  vars = k.vars ++ (body_form k).types;
  arrays = k.arrays;
  body = (body_form k).stmts;
}
