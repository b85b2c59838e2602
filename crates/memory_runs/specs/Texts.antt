-- The texts of requests and documents.
use Rattle.std.specs.Prelude.{ℕ, List, ◌++◌, codes, decimal}

abbrev pub requests_text : ℕ → List ℕ → List ℕ
requests_text take reservations =
    codes "{\"format\":1,\"moves\":{\"take\":" ++ (decimal take ++ (codes ",\"idle\":5,\"busy\":50},\"reservations\":[" ++ (reservations ++ codes "]}")))

abbrev pub reservation_text : ℕ → ℕ → List ℕ → List ℕ
reservation_text need value further =
    codes "{\"name\":\"a\",\"need\":" ++ (decimal need ++ (codes ",\"values\":{\"t\":" ++ (decimal value ++ (codes "}" ++ (further ++ codes "}")))))

-- one reservation
abbrev pub one_request_text : ℕ → ℕ → ℕ → List ℕ → List ℕ
one_request_text take need value further = requests_text take (reservation_text need value further)

abbrev pub document_text : List ℕ → List ℕ → ℕ → ℕ → List ℕ → List ℕ
document_text answer grouping gap nodes parts =
    codes "{\"answer\":\"" ++ (answer ++ (codes "\",\"format\":1,\"gap\":" ++ (decimal gap
    ++ (codes ",\"grouping\":\"" ++ (grouping ++ (codes "\",\"nodes\":" ++ (decimal nodes ++ (codes ",\"racks\":4,\"region\":" ++ (parts ++ codes "}")))))))))

-- a region part whose bound is 0
abbrev pub unbounded_text : List ℕ → ℕ → List ℕ
unbounded_text assignment value =
    codes "{\"assignment\":{" ++ (assignment ++ (codes "},\"gap\":" ++ (decimal value
    ++ (codes ",\"lower\":0,\"tree\":[[\"bound\",1,[]]],\"value\":" ++ (decimal value ++ codes "}")))))
