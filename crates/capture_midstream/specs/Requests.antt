-- Requests, and the responses to them (SEMI E37, section 7; SEMI E5, section 8).
use Rattle.std.specs.Prelude.{◌≡◌, ◌-◌, ◌==◌, ◌&&◌, ℕ, Bool, true, false, not, nat_eq, nat_le, List}
use Rattle.std.specs.List.{list_any}
use Rattle.indexmap.specs.IndexSet.{contains}
use Rattle.hsms_frame.specs.declared.header.Header.{Header}
use Rattle.hsms_frame.specs.declared.kinds.Kind.{Kind}
use Rattle.hsms_frame.specs.declared.kinds.Kind.TheVariants.{Primary, Reply, SelectReq, SelectRsp, LinktestReq, LinktestRsp}
use Rattle.hsms_frame.specs.Header.{kind_of, wait_of}
use Rattle.capture_midstream.specs.declared.requests.Requests.{Requests}

-- a primary with the W bit asks for data
abbrev pub data_by : Kind → Bool → Bool
data_by Primary wait = wait
data_by _ wait = false

abbrev pub asks_data : Header → Bool
asks_data h = data_by (kind_of h) (wait_of h)

-- a Select.req asks for a Select.rsp, a Linktest.req for a Linktest.rsp
abbrev pub select_by : Kind → Bool
select_by SelectReq = true
select_by _ = false

abbrev pub asks_select : Header → Bool
asks_select h = select_by (kind_of h)

abbrev pub linktest_by : Kind → Bool
linktest_by LinktestReq = true
linktest_by _ = false

abbrev pub asks_linktest : Header → Bool
asks_linktest h = linktest_by (kind_of h)

-- among these messages is one with these system bytes that asks for data, for a Select.rsp, or for a Linktest.rsp
abbrev pub has_primary : ℕ → List Header → Bool
has_primary system said = list_any (λ h. asks_data h && (h.system == system)) said

abbrev pub has_select : ℕ → List Header → Bool
has_select system said = list_any (λ h. asks_select h && (h.system == system)) said

abbrev pub has_linktest : ℕ → List Header → Bool
has_linktest system said = list_any (λ h. asks_linktest h && (h.system == system)) said

abbrev pub asked_by : Kind → ℕ → List Header → Bool
asked_by Reply system said = has_primary system said
asked_by SelectRsp system said = has_select system said
asked_by LinktestRsp system said = has_linktest system said
asked_by _ system said = false

-- among the messages that the other end sent is one that asks for this response
abbrev pub is_asked : Header → List Header → Bool
is_asked response said = asked_by (kind_of response) response.system said

-- requests are those of the messages that were sent
pub record KnowsOf (said : List Header) (requests : Requests) : Type 0 where
  pub primaries : (system : ℕ) → contains nat_eq requests.primaries system ≡ has_primary system said
  pub selects : (system : ℕ) → contains nat_eq requests.selects system ≡ has_select system said
  pub linktests : (system : ℕ) → contains nat_eq requests.linktests system ≡ has_linktest system said

abbrev pub response_by : Kind → Bool
response_by Reply = true
response_by SelectRsp = true
response_by LinktestRsp = true
response_by _ = false

abbrev pub is_response : Header → Bool
is_response h = response_by (kind_of h)

-- a response up to T3 behind the beginning whose request isn't in the capture: it may stand before it
abbrev pub is_left_out : Header → List Header → ℕ → ℕ → ℕ → Bool
is_left_out message said begun t3 time = is_response message && (not (is_asked message said) && nat_le (time - begun) t3)
