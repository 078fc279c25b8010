-- The model's value of the struct of src/lib.rt.
use Rattle.model.specs.Sharing.{Top}
use Rattle.top_pair.specs.declared.Top as code

-- the struct's value
unfoldable pub top_of : code.Top → Top
top_of t = record { count = t.n; a = t.a; b = t.b }
