-- The texts of the protections, in every file that names one.
use Rattle.std.specs.Prelude.{ℕ, List, codes, Option, Some, None, if◌then◌else◌}
use Rattle.std.specs.Str.{bytes_eq}
use Rattle.ras_requests.specs.declared.requests.Protection.{Protection}
use Rattle.ras_requests.specs.declared.requests.Protection.TheVariants.{Total, Board, Center}

abbrev pub protection_text : Protection → List ℕ
protection_text Total = codes "none"
protection_text Board = codes "switchboard"
protection_text Center = codes "datacenter"

-- the protection that a text names
abbrev pub protection_of_text : List ℕ → Option Protection
protection_of_text text =
    if bytes_eq text (codes "none") then Some Total
    else if bytes_eq text (codes "switchboard") then Some Board
    else if bytes_eq text (codes "datacenter") then Some Center
    else None
