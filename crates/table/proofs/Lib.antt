-- The laws of the table.
pub mod Tables
pub mod Laying
