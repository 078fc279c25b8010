-- The number that refuses a body, or 0; `strict` asks for 7.
use Rattle.std.specs.Prelude.{ℕ, Bool, not, cond, ◌&&◌, List, leb}
use Rattle.model.specs.Gate.{fanin, wired, is_topo_sorted}
use Rattle.model.specs.Image.{net_in, laid}

unfoldable pub body_number : Bool → ℕ → ℕ → ℕ → List ℕ → ℕ
body_number strict i n o ws =
    cond (laid n o ws)
    (cond (leb (fanin (net_in i n o ws).nodes) 2048)
    (cond (wired (net_in i n o ws))
    (cond (strict && not (is_topo_sorted (net_in i n o ws))) 7 0) 6) 5) 4
