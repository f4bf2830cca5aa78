use Rattle.ref_interp.proofs.laws.parts_are_known.Goals as goal

pub returns : goal.returns
returns c =
    let runs = c.statements_run_their_parts.ensures in
    let law = c.lawful_statements_have_lawful_parts.ensures in
    record {
      block = runs.block;
      declaration = runs.declaration;
      assignment = runs.assignment;
      stepping = runs.stepping;
      choice = runs.choice;
      while_loop = runs.while_loop;
      do_loop = runs.do_loop;
      for_loop = runs.for_loop;
      leaving = runs.leaving;
      continuing = runs.continuing;
      returning = runs.returning;
      empty = runs.empty;
      lawful_block = law.block;
      lawful_declaration = law.declaration;
      lawful_assignment = law.assignment;
      lawful_stepping = law.stepping;
      lawful_choice = law.choice;
      lawful_while = law.while_loop;
      lawful_do = law.do_loop;
      lawful_for = law.for_loop;
      lawful_returning = law.returning;
    }
