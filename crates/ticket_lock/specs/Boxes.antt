-- A value that lies in a block of its own.
use Rattle.std.specs.Prelude.{Box}
use Rattle.std.specs.declared.alloc.Global.{Global}

-- what is said of a value, said of the box that it lies in
abbrev pub inside : {T X : Type 0} → (T → X) → Box T Global → X
inside said box = said box.value
