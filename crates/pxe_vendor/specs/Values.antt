-- The joined values of the options that identify a client.
use Rattle.std.specs.Prelude.{ℕ, Bool, true, false, List, [], ◌++◌, Option, Some, unwrap_or, ◌==◌}
use Rattle.dhcp_frame.specs.{Area.{Entry, value_of}, declared.option_codes.TheConstants.{VENDOR_OPTIONS, MESSAGE_TYPE, VENDOR_CLASS, USER_CLASS, CLIENT_ARCHITECTURES, MACHINE_IDENTIFIER}}
use Rattle.pxe_vendor.specs.declared.values.Values.{Values}

-- the joined values in a list of options
abbrev pub values_of : List Entry → Values
values_of es = record {
  message_type = value_of MESSAGE_TYPE es;
  class = value_of VENDOR_CLASS es;
  architectures = value_of CLIENT_ARCHITECTURES es;
  vendor = value_of VENDOR_OPTIONS es;
  identifier = value_of MACHINE_IDENTIFIER es;
  user_class = value_of USER_CLASS es;
}

-- a joined value with one more value, if that is one of this option
unfoldable pub push_if : Bool → Option (List ℕ) → List ℕ → Option (List ℕ)
push_if true joined value = Some (unwrap_or joined [] ++ value)
push_if false joined value = joined

-- the joined values with one more value of this code
unfoldable pub pushed : Values → ℕ → List ℕ → Values
pushed v code value = record {
  message_type = push_if (code == MESSAGE_TYPE) v.message_type value;
  class = push_if (code == VENDOR_CLASS) v.class value;
  architectures = push_if (code == CLIENT_ARCHITECTURES) v.architectures value;
  vendor = push_if (code == VENDOR_OPTIONS) v.vendor value;
  identifier = push_if (code == MACHINE_IDENTIFIER) v.identifier value;
  user_class = push_if (code == USER_CLASS) v.user_class value;
}
